-- Two pieces, one written after the other, are the two written as one; and a part of the room that a piece takes the place of. Assumes nothing.
use mathlib.Core.Path.{◌≡◌, refl, sym, ap, ◌∙◌, subst}
use mathlib.Core.List.{List, [], ◌++◌, append_assoc}
use Prim.Native.Nat.{ℕ, ◌+◌, ◌-◌, ◌≤◌}
use native.Mathlib.Omega.{arith}
use lib.ListN.{length, take, drop, length-append}
use lib.Seq.{paste-zero, take-length, length-take-le, take_at, drop_at, drop-drop}
use borrow.Rule.Slice.PartMut.{put_mid}
use Rattle.std.proofs.lemmas.Slice.{put_mid-paste}
use Rattle.io.specs.Counts.{IsPrefixLen}
use Rattle.report.specs.Text.{written, Wrote}

pub pasted : (d : List ℕ) (at : ℕ) (s ys : List ℕ) → ys ≡ s → Wrote d at s (put_mid at (at + length s - at) d ys) (at + length s)
unfolding written
pasted d at s ys e = record { room = put_mid-paste at (at + length s - at) d ys s (length s) e (omega arith) refl ∙ rw take-length; place = refl }

front : (o : List ℕ) (a : ℕ) (p : List ℕ) → a + length p ≤ length o → length (take a o ++ p) ≡ a + length p
front o a p h = length-append (take a o) p ∙ ap (λ (n : ℕ). n + length p) (length-take-le a o (omega arith))

twice : (o : List ℕ) (a : ℕ) (p q : List ℕ) → a + length p ≤ length o → written (written o a p) (a + length p) q ≡ written o a (p ++ q)
unfolding written
twice o a p q h =
    let f = front o a p h in
    let w : List ℕ = take a o ++ p ++ drop (a + length p) o in
    let before : take (a + length p) w ≡ take a o ++ p = take_at (take a o ++ p) (drop (a + length p) o) (a + length p) f in
    let rest : drop (a + length p + length q) w ≡ drop (a + length p + length q) o =
    sym (drop-drop (length q) (a + length p) w) ∙ ap (λ (z : List ℕ). drop (length q) z) (drop_at (take a o ++ p) (drop (a + length p) o) (a + length p) f) ∙ drop-drop (length q) (a + length p) o in
    let ends : a + length p + length q ≡ a + length (p ++ q) = omega (arith, length-append p q) in
    rw (before, rest, ends, append_assoc (take a o) p q)

pub and_then : (o : List ℕ) (a : ℕ) (p o₁ : List ℕ) (a₁ : ℕ) (q o₂ : List ℕ) (a₂ : ℕ) → a₁ ≤ length o → Wrote o a p o₁ a₁ → Wrote o₁ a₁ q o₂ a₂ → Wrote o a (p ++ q) o₂ a₂
and_then o a p o₁ a₁ q o₂ a₂ h x y =
    let k : a + length p ≤ length o = omega (arith, x.place) in
    record {
      room = y.room ∙ rw (x.room, x.place) (twice o a p q k);
      place = y.place ∙ omega (arith, x.place, length-append p q);
    }

pub wrote_none : (o : List ℕ) (a : ℕ) → Wrote o a [] o a
unfolding written
wrote_none o a = record { room = paste-zero o a []; place = omega arith }

pub wrote_as : (o : List ℕ) (a : ℕ) (p q o₁ : List ℕ) (a₁ : ℕ) → p ≡ q → Wrote o a p o₁ a₁ → Wrote o a q o₁ a₁
wrote_as o a p q o₁ a₁ e w = subst (λ (z : List ℕ). Wrote o a z o₁ a₁) e w

-- what is written from the front on lies within the room
pub wrote_within : (o p o₁ : List ℕ) (a₁ : ℕ) → Wrote o 0 p o₁ a₁ → IsPrefixLen a₁ o₁
unfolding written
wrote_within o p o₁ a₁ w =
    let l = ap length w.room ∙ length-append (take 0 o ++ p) (drop (0 + length p) o) ∙ ap (λ (n : ℕ). n + length (drop (0 + length p) o)) (length-append (take 0 o) p) in
    let h : a₁ ≤ length o₁ = omega (arith, w.place, l) in
    (h, sym (length-take-le a₁ o₁ h))
