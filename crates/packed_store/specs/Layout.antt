-- How messages lie in memory: side by side from its start, each behind a header of 16 bytes.
use Rattle.std.specs.Prelude.{ℕ, zero, suc, ◌+◌, ◌*◌, ◌/◌, ◌%◌, List, [], ◌∷◌, ◌++◌, length, take, drop, slice_index}
use Rattle.store.specs.Meaning.{Contents}
use Rattle.store.specs.Listing.{Entry, entry, lookup}

-- a message costs its bytes and its header
abbrev pub units_for : ℕ → ℕ
units_for l = l + 16

-- a header: the number, lowest byte first, then the length, then zeros
abbrev pub header_of : ℕ → ℕ → List ℕ
header_of n l = n % 256 ∷ n / 256 % 256 ∷ n / 65536 % 256 ∷ n / 16777216 % 256 ∷ l ∷ 0 ∷ 0 ∷ 0 ∷ 0 ∷ 0 ∷ 0 ∷ 0 ∷ 0 ∷ 0 ∷ 0 ∷ 0 ∷ []

-- a message as it lies: its header, then its bytes
abbrev pub laid : ℕ → List ℕ → List ℕ
laid n bytes = header_of n (length bytes) ++ bytes

-- messages side by side
abbrev pub packed : List Entry → List ℕ
packed [] = []
packed (e ∷ es) = laid e.number e.bytes ++ packed es

-- the number that the header at a place has
abbrev pub number_at : List ℕ → ℕ → ℕ
number_at memory at = slice_index memory at + slice_index memory (at + 1) * 256 + slice_index memory (at + 2) * 65536 + slice_index memory (at + 3) * 16777216

-- the length that it has
abbrev pub length_at : List ℕ → ℕ → ℕ
length_at memory at = slice_index memory (at + 4)

-- as many bytes behind it
abbrev pub bytes_at : List ℕ → ℕ → List ℕ
bytes_at memory at = take (length_at memory at) (drop (at + 16) memory)

-- the messages that lie side by side, at most so many
abbrev pub unpacked : ℕ → List ℕ → List Entry
unpacked zero m = []
unpacked (suc most) [] = []
unpacked (suc most) (b ∷ m) = entry (number_at (b ∷ m) 0) (bytes_at (b ∷ m) 0) ∷ unpacked most (drop (length_at (b ∷ m) 0) (drop 16 (b ∷ m)))

-- the messages in the used part of a memory
abbrev pub messages : List ℕ → ℕ → List Entry
messages memory used = unpacked used (take used memory)

-- the bytes that a memory holds under each number
abbrev pub held_in : List ℕ → ℕ → Contents
held_in memory used = lookup (messages memory used)
