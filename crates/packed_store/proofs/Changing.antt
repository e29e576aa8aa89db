-- What one message more and one less make of the memory, and of what is held.
use Rattle.std.proofs.Common.{◌≡◌, ℕ, ◌+◌, ◌-◌, ◌≤◌, true, List, [], ◌∷◌, ◌++◌, length, take, drop, None, sym, refl, ap, ◌∙◌, append_assoc, append-nil, arith, length-append, length-drop}
use mathlib.Core.Path.{fun_ext}
use lib.Seq.{paste}
use Rattle.std.proofs.lemmas.List.{take_at, drop_at, take_all, take-take, drop-take, length-take-le}
use Rattle.std.proofs.lemmas.List.Edits.{take-paste, length-paste}
use Rattle.std.proofs.lemmas.Bool.{and_parts, and_from}
use Rattle.store.specs.Meaning.{Allowed, with, without}
use Rattle.store.specs.Listing.{entry, lookup}
use Rattle.store.proofs.Listed.{lookup_insert, distinct_insert, removed, lookup_removed}
use Rattle.packed_store.specs.Layout.{laid, packed, number_at, length_at, bytes_at, messages, held_in}
use Rattle.packed_store.specs.Inside.{fit, all_fit, Packs, Sound, Spot}
use Rattle.packed_store.specs.Packing.{packed_append, fit_append, fit_parts, fits}
use Rattle.packed_store.proofs.Places.{parts, behind, message_ends, bytes_long, spot_packs}

-- a new message behind the others
module _ {memory : List ℕ} {used : ℕ} (p : Sound memory used) (n : ℕ) (bytes : List ℕ) (fresh : held_in memory used n ≡ None) where
  alone : lookup (messages memory used ++ []) n ≡ None
  alone = rw append-nil fresh

  pub more_held : lookup (messages memory used ++ entry n bytes ∷ []) ≡ with (held_in memory used) n bytes
  more_held =
      let es = messages memory used in
      fun_ext (λ k. lookup_insert es [] (entry n bytes) k alone ∙ ap (λ l. with (lookup l) n bytes k) (append-nil es))

  pub more_packs : n ≤ 4294967295 → Allowed (length bytes) → (end : ℕ) → end ≡ used + (16 + length bytes) → end ≤ 4096 → {after : List ℕ} → after ≡ paste memory used (laid n bytes) (16 + length bytes) → Packs after end (messages memory used ++ entry n bytes ∷ [])
  more_packs small allowed end ends room {after} is =
      let es = messages memory used in
      let e = entry n bytes in
      let new = laid n bytes in
      let size = 16 + length bytes in
      record {
        whole = ap length is ∙ length-paste memory used new size (omega arith) (omega arith) ∙ p.whole;
        room = room;
        packs = ap (λ k. take k after) ends ∙ ap (λ m. take (used + size) m) is ∙ take-paste memory used new size (omega arith) (omega arith)
            ∙ ap (λ l. l ++ take size new) p.packs ∙ ap (λ l. packed es ++ l) (take_all size new (omega arith) ∙ sym (append-nil new))
            ∙ sym (packed_append es (e ∷ []));
        good = fit_append es (e ∷ []) p.good (and_from (fit e) true (fits e small allowed) refl);
        once = distinct_insert es [] e alone (rw append-nil p.once);
      }

-- the message at a place is gone
module _ {memory : List ℕ} {used at : ℕ} (p : Sound memory used) (x : Spot memory used at) where
  pub less_held : lookup (x.front ++ x.back) ≡ without (held_in memory used) (number_at memory at)
  less_held =
      let e = entry (number_at memory at) (bytes_at memory at) in
      fun_ext
      (λ k. lookup_removed x.front x.back e k (spot_packs p x).once
      ∙ ap (λ m. without (lookup m) e.number k) (sym x.split))

  -- what lies from there on
  abbrev mid : List ℕ
  mid = take (used - at) (drop at memory)

  pub less_packs : (gap : ℕ) → gap ≡ 16 + length_at memory at → {part : List ℕ} → part ≡ paste mid 0 (drop gap mid) (length mid - gap) → Packs (take at memory ++ (part ++ drop (used - at) (drop at memory))) (used - gap) (x.front ++ x.back)
  less_packs gap size {part} is =
      let e = entry (number_at memory at) (bytes_at memory at) in
      let q = spot_packs p x in
      let a = packed x.front in
      let b = laid e.number e.bytes in
      let c = packed x.back in
      let n = length (b ++ c) - gap in
      let rest = drop (0 + n) (b ++ c) in
      let tail = drop (used - at) (drop at memory) in
      let long = bytes_long p at x.inside in
      let size_is : gap ≡ length b = omega arith in
      let up_to : at + (used - at) ≡ used = omega (arith, x.inside) in
      let front_is : take at memory ≡ a =
      sym (take-take at used memory (omega (arith, x.inside))) ∙ ap (λ m. take at m) (parts x.front (e ∷ x.back) q at x.place)
      ∙ take_at a (b ++ c) at (sym x.place) in
      let mid_is : mid ≡ b ++ c =
      sym (drop-take at (used - at) memory) ∙ ap (λ k. drop at (take k memory)) up_to ∙ behind x.front (e ∷ x.back) q at x.place in
      let moved : part ≡ c ++ rest =
      is ∙ ap (λ l. paste l 0 (drop gap l) (length l - gap)) mid_is
      ∙ ap (λ l. l ++ rest) (ap (λ l. take n l) (drop_at b c gap (sym size_is)) ∙ take_all n c (omega (arith, length-append b c))) in
      let ends = message_ends x.front e x.back q at x.place in
      let mid_long = length-take-le (used - at) (drop at memory) (omega (arith, p.room, p.whole, length-drop at memory)) in
      let part_long = ap length is ∙ length-paste mid 0 (drop gap mid) (length mid - gap) (omega arith) (omega (arith, length-drop gap mid)) in
      let good = fit_parts x.front (e ∷ x.back) q.good in
      record {
        whole = omega (arith, length-append (take at memory) (part ++ tail), length-append part tail, length-take-le at memory (omega (arith, x.inside, p.room, p.whole)), length-drop at memory, length-drop (used - at) (drop at memory), mid_long, part_long, x.inside, p.room, p.whole);
        room = omega (arith, p.room);
        packs = ap (λ l. take (used - gap) (l ++ (part ++ tail))) front_is ∙ ap (λ l. take (used - gap) (a ++ (l ++ tail))) moved
            ∙ ap (λ l. take (used - gap) l) (ap (λ l. a ++ l) (append_assoc c rest tail) ∙ sym (append_assoc a c (rest ++ tail)))
            ∙ take_at (a ++ c) (rest ++ tail) (used - gap) (omega (arith, length-append a c, x.place)) ∙ sym (packed_append x.front x.back);
        good = fit_append x.front x.back good.0 (and_parts (fit e) (all_fit x.back) good.1).1;
        once = (removed x.front x.back e q.once).1;
      }
