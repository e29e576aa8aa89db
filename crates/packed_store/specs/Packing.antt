-- What is packed is read back as it was.
use Rattle.std.specs.Prelude.{◌≡◌, ℕ, zero, suc, ◌+◌, ◌*◌, ◌/◌, ◌%◌, ◌<◌, ◌≤◌, true, ◌&&◌, List, [], ◌∷◌, ◌++◌, length, Some, nat_le, refl}
use Rattle.std.proofs.Common.{sym, ap, subst, ◌∙◌, append_assoc, arith, mod-eq_of_lt, length-append}
use Rattle.std.proofs.Math.Nat.{div-div-eq-div-mul, mod-add-div}
use Rattle.std.proofs.lemmas.List.{take_at, drop_at, length-take-le}
use Rattle.std.proofs.lemmas.Bool.{and_parts, and_from, leb-true, le-leb}
use Rattle.store.specs.Meaning.{Allowed}
use Rattle.store.specs.Listing.{Entry, entry, lookup, total}
use Rattle.store.proofs.Listed.{found}
use Rattle.packed_store.specs.Layout.{units_for, laid, packed, unpacked, messages}
use Rattle.packed_store.specs.Inside.{fit, all_fit, Packs, Sound}

length_packed : (es : List Entry) → length (packed es) ≡ total units_for es
length_packed [] = refl
length_packed (e ∷ es) = omega (arith, length_packed es, length-append e.bytes (packed es))

pub packed_append : (xs ys : List Entry) → packed (xs ++ ys) ≡ packed xs ++ packed ys
packed_append [] ys = refl
packed_append (x ∷ xs) ys =
    let one = laid x.number x.bytes in
    ap (λ l. one ++ l) (packed_append xs ys) ∙ sym (append_assoc one (packed xs) (packed ys))

pub fit_append : (xs ys : List Entry) → all_fit xs ≡ true → all_fit ys ≡ true → all_fit (xs ++ ys) ≡ true
fit_append [] ys g h = h
fit_append (x ∷ xs) ys g h =
    let p = and_parts (fit x) (all_fit xs) g in
    and_from (fit x) (all_fit (xs ++ ys)) p.0 (fit_append xs ys p.1 h)

pub fit_parts : (xs ys : List Entry) → all_fit (xs ++ ys) ≡ true → (all_fit xs ≡ true) × (all_fit ys ≡ true)
fit_parts [] ys g = (refl, g)
fit_parts (x ∷ xs) ys g =
    let p = and_parts (fit x) (all_fit (xs ++ ys)) g in
    let r = fit_parts xs ys p.1 in
    (and_from (fit x) (all_fit xs) p.0 r.0, r.1)

pub fits : (e : Entry) → e.number ≤ 4294967295 → Allowed (length e.bytes) → fit e ≡ true
fits e n a =
    let l = length e.bytes in
    and_from (nat_le e.number 4294967295) (nat_le 1 l && nat_le l 128) (le-leb e.number 4294967295 n)
    (and_from (nat_le 1 l) (nat_le l 128) (le-leb 1 l a.some) (le-leb l 128 a.short))

pub fitting : (e : Entry) → fit e ≡ true → (e.number ≤ 4294967295) × Allowed (length e.bytes)
fitting e g =
    let l = length e.bytes in
    let p = and_parts (nat_le e.number 4294967295) (nat_le 1 l && nat_le l 128) g in
    let q = and_parts (nat_le 1 l) (nat_le l 128) p.1 in
    (leb-true e.number 4294967295 p.0, record { some = leb-true 1 l q.0; short = leb-true l 128 q.1 })

-- what a list of fitting messages has under a number
pub held_fits : (es : List Entry) (n : ℕ) (b : List ℕ) → all_fit es ≡ true → lookup es n ≡ Some b → (n ≤ 4294967295) × Allowed (length b)
held_fits es n b g h =
    let f = found es n b h in
    let p = fit_parts f.front (entry n b ∷ f.back) (subst (λ (l : List Entry). all_fit l ≡ true) f.split g) in
    fitting (entry n b) (and_parts (fit (entry n b)) (all_fit f.back) p.1).0

-- the four bytes of a number give it back
pub four_bytes : (n : ℕ) → n ≤ 4294967295 → n % 256 + n / 256 % 256 * 256 + n / 65536 % 256 * 65536 + n / 16777216 % 256 * 16777216 ≡ n
four_bytes n h =
    let two : n / 256 / 256 ≡ n / 65536 = div-div-eq-div-mul n 256 256 in
    let three : n / 65536 / 256 ≡ n / 16777216 = div-div-eq-div-mul n 65536 256 in
    let top : n / 16777216 < 256 = omega arith in
    let last : n / 16777216 % 256 ≡ n / 16777216 = mod-eq_of_lt top in
    omega (arith, two, three, last, mod-add-div n 256, mod-add-div (n / 256) 256, mod-add-div (n / 65536) 256)

read_back : (es : List Entry) (most : ℕ) → all_fit es ≡ true → length (packed es) ≤ most → unpacked most (packed es) ≡ es
read_back [] zero g h = refl
read_back [] (suc most) g h = refl
read_back (e ∷ es) zero g h = absurd (omega arith)
read_back (e ∷ es) (suc most) g h =
    let p = and_parts (fit e) (all_fit es) g in
    let l = length e.bytes in
    let number = four_bytes e.number (fitting e p.0).0 in
    let bytes = take_at e.bytes (packed es) l refl in
    let rest = drop_at e.bytes (packed es) l refl in
    let others = read_back es most p.1 (omega (arith, length-append e.bytes (packed es))) in
    rw (number, bytes, rest, others)

module _ {memory : List ℕ} {used : ℕ} {es : List Entry} (p : Packs memory used es) where
  pub used_is : used ≡ length (packed es)
  used_is = sym (length-take-le used memory (omega (arith, p.room, p.whole))) ∙ ap length p.packs

  pub used_total : used ≡ total units_for es
  used_total = used_is ∙ length_packed es

  pub messages_are : messages memory used ≡ es
  messages_are = ap (λ l. unpacked used l) p.packs ∙ read_back es used p.good (omega (arith, used_is))

  -- and so it is sound
  pub sealed : Sound memory used
  sealed = subst (λ (l : List Entry). Packs memory used l) (sym messages_are) p
