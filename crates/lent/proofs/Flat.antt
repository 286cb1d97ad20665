-- A record that is written is read back, every other stays, and records written from the front stand one after the other: one law each, over
-- the width. A list with a record written is its front, the record and its rest (`sets-eq` of the kit). Assumes nothing.
use mathlib.Core.Path.{◌≡◌, refl, sym, ap, ◌∙◌}
use mathlib.Core.Logic.{◌⊎◌, inl, inr, ⊎_elim}
use mathlib.Core.List.{List, [], ◌∷◌, ◌++◌, append_assoc, append-nil}
use Prim.Native.Nat.{ℕ, zero, suc, ◌+◌, ◌*◌, ◌-◌, ◌≤◌, ◌<◌}
use native.Mathlib.Nat.{add-zero, add-suc, suc-mul, zero-mul, mul-le-mul_right}
use native.Mathlib.Numerals.{add-one}
use native.Mathlib.Omega.{arith}
use native.Mathlib.Decide.{ℕ_discrete, dec_lt}
use lib.ListN.{length, get_or, set, take, drop, length-append, length-drop, get_or-append}
use lib.Seq.{sets, sets-eq, length-sets, take_at, drop_at, drop-drop, length-take-le, get_or-take, get_or-drop, get_or-append-add, get_or-set_other, drop-set-lt, drop-set-add, take-set-le}
use Rattle.lent.specs.Flat.{record_at, put, records}

module _ {A : Type 0} where
  -- ---- as code writes a record: its first number at a place, the others at so much more
  abbrev pub stores : List A → ℕ → ℕ → List A → List A
  stores list at k [] = list
  stores list at k (v ∷ vs) = stores (set list (at + k) v) at (suc k) vs

  stores_sets : (vs list : List A) (at k i : ℕ) → i ≡ at + k → stores list at k vs ≡ sets list i vs
  stores_sets [] list at k i e = refl
  stores_sets (v ∷ vs) list at k i e =
      stores_sets vs (set list (at + k) v) at (suc k) (suc i) (omega arith) ∙ ap (λ (p : ℕ). sets (set list p v) (suc i) vs) (sym e)

  pub written : (width : ℕ) (list : List A) (i : ℕ) (v : A) (vs : List A) → stores (set list (i * width) v) (i * width) 1 vs ≡ put width list i (v ∷ vs)
  unfolding put
  written width list i v vs = stores_sets vs (set list (i * width) v) (i * width) 1 (suc (i * width)) (omega arith)

  pub length_put : (width : ℕ) (list : List A) (i : ℕ) (vs : List A) → length (put width list i vs) ≡ length list
  unfolding put
  length_put width list i vs = length-sets list (i * width) vs

  -- ---- place by place
  sets_other : (vs list : List A) (i p : ℕ) (d : A) → (p < i) ⊎ (i + length vs ≤ p) → get_or (sets list i vs) p d ≡ get_or list p d
  sets_other [] list i p d far = refl
  sets_other (v ∷ vs) list i p d far =
      sets_other vs (set list i v) (suc i) p d (⊎_elim (λ u. inl (omega arith)) (λ u. inr (omega arith)) far)
      ∙ get_or-set_other list i p v d (λ e. ⊎_elim (λ u. omega arith) (λ u. omega arith) far)

  sets_here : (vs list : List A) (i k : ℕ) (d : A) → i + length vs ≤ length list → k < length vs → get_or (sets list i vs) (i + k) d ≡ get_or vs k d
  sets_here vs list i k d fits h =
      let front = length-take-le i list (omega arith) in
      ap (λ (l : List A). get_or l (i + k) d) (sets-eq vs list i fits ∙ append_assoc (take i list) vs (drop (i + length vs) list))
      ∙ ap (λ (n : ℕ). get_or (take i list ++ (vs ++ drop (i + length vs) list)) (n + k) d) (sym front)
      ∙ get_or-append-add (take i list) (vs ++ drop (i + length vs) list) k d
      ∙ get_or-append vs (drop (i + length vs) list) d k h

  -- number p of the list is number k of the record that was written
  pub put_here : (width : ℕ) (list : List A) (i : ℕ) (vs : List A) (p k : ℕ) (d : A) → i * width + length vs ≤ length list → k < length vs → p ≡ i * width + k → get_or (put width list i vs) p d ≡ get_or vs k d
  unfolding put
  put_here width list i vs p k d fits h e = ap (λ (q : ℕ). get_or (sets list (i * width) vs) q d) e ∙ sets_here vs list (i * width) k d fits h

  pub put_elsewhere : (width : ℕ) (list : List A) (i : ℕ) (vs : List A) (p : ℕ) (d : A) → (p < i * width) ⊎ (i * width + length vs ≤ p) → get_or (put width list i vs) p d ≡ get_or list p d
  unfolding put
  put_elsewhere width list i vs p d far = sets_other vs list (i * width) p d far

  -- ---- what stands behind stays
  sets_rest : (vs list : List A) (i k : ℕ) → i + length vs ≤ k → drop k (sets list i vs) ≡ drop k list
  sets_rest [] list i k h = refl
  sets_rest (v ∷ vs) list i k h = sets_rest vs (set list i v) (suc i) k (omega arith) ∙ drop-set-lt k list i v (omega arith)

  pub put_rest : (width : ℕ) (list : List A) (i : ℕ) (vs : List A) (k : ℕ) → i * width + length vs ≤ k → drop k (put width list i vs) ≡ drop k list
  unfolding put
  put_rest width list i vs k h = sets_rest vs list (i * width) k h

  -- ---- record by record
  part_set : (list : List A) (p : ℕ) (v : A) (at width : ℕ) → (p < at) ⊎ (at + width ≤ p) → take width (drop at (set list p v)) ≡ take width (drop at list)
  part_set list p v at width (inl h) = ap (λ (l : List A). take width l) (drop-set-lt at list p v h)
  part_set list p v at width (inr h) =
      let e : p ≡ at + (p - at) = omega arith in
      ap (λ (q : ℕ). take width (drop at (set list q v))) e ∙ ap (λ (l : List A). take width l) (drop-set-add at list (p - at) v) ∙ take-set-le width (drop at list) (p - at) v (omega arith)

  part_sets : (vs list : List A) (i at width : ℕ) → (i + length vs ≤ at) ⊎ (at + width ≤ i) → take width (drop at (sets list i vs)) ≡ take width (drop at list)
  part_sets [] list i at width far = refl
  part_sets (v ∷ vs) list i at width far =
      part_sets vs (set list i v) (suc i) at width (⊎_elim (λ u. inl (omega arith)) (λ u. inr (omega arith)) far)
      ∙ part_set list i v at width (⊎_elim (λ u. inl (omega arith)) (λ u. inr (omega arith)) far)

  module _ (width : ℕ) (list : List A) (i : ℕ) (vs : List A) (whole : length vs ≡ width) where
    pub read_same : i * width + width ≤ length list → record_at width (put width list i vs) i ≡ vs
    unfolding put record_at
    read_same fits =
        let at = i * width in
        let rest = drop (at + length vs) list in
        ap (λ (l : List A). take width (drop at l)) (sets-eq vs list at (omega arith) ∙ append_assoc (take at list) vs rest)
        ∙ ap (λ (l : List A). take width l) (drop_at (take at list) (vs ++ rest) at (length-take-le at list (omega arith)))
        ∙ take_at vs rest width whole

    pub read_other : (j : ℕ) → (j ≡ i → ⊥) → record_at width (put width list i vs) j ≡ record_at width list j
    unfolding put record_at
    read_other j apart = part_sets vs list (i * width) (j * width) width (beside (dec_lt i j))
      where
        up : (a b : ℕ) → a < b → a * width + width ≤ b * width
        up a b h = let m : suc a * width ≤ b * width = mul-le-mul_right {m = suc a} {n = b} width h in omega (arith, suc-mul a width)

        beside : Dec (i < j) → (i * width + length vs ≤ j * width) ⊎ (j * width + width ≤ i * width)
        beside (yes h) = inl (omega (arith, up i j h))
        beside (no n) = let l : j < i = omega arith in inr (up j i l)

  -- number p of the list is number k of record i
  pub in_record : (width : ℕ) (list : List A) (i p k : ℕ) (d : A) → k < width → p ≡ i * width + k → get_or list p d ≡ get_or (record_at width list i) k d
  unfolding record_at
  in_record width list i p k d h e = ap (λ (q : ℕ). get_or list q d) e ∙ sym (get_or-take width (drop (i * width) list) k d h ∙ get_or-drop (i * width) list k d)

  -- ---- from the front: so many written, the rest as it was
  pub fills : (done room vs : List A) (n m : ℕ) → length done ≡ n → m ≡ n + length vs → m ≤ length room → sets (done ++ drop n room) n vs ≡ done ++ vs ++ drop m room
  fills done room vs n m l e h =
      let rest = done ++ drop n room in
      sets-eq vs rest n (omega (arith, length-append done (drop n room), length-drop n room))
      ∙ ap (λ (z : List A). z ++ vs ++ drop (n + length vs) rest) (take_at done (drop n room) n l)
      ∙ ap (λ (z : List A). done ++ vs ++ z)
      (sym (drop-drop (length vs) n rest) ∙ ap (λ (z : List A). drop (length vs) z) (drop_at done (drop n room) n l) ∙ drop-drop (length vs) n room ∙ ap (λ (q : ℕ). drop q room) (sym e))

  module _ (f : ℕ → List A) where
    -- one more record
    pub fill_more : (room : List A) (i n m : ℕ) → length (records f i) ≡ n → m ≡ n + length (f i) → m ≤ length room → sets (records f i ++ drop n room) n (f i) ≡ records f (i + 1) ++ drop m room
    unfolding records
    fill_more room i n m l e h = fills (records f i) room (f i) n m l e h ∙ ap (λ (k : ℕ). records f k ++ drop m room) (sym (add-one i))

    module _ (width : ℕ) (wide : (i : ℕ) → length (f i) ≡ width) where
      pub records_length : (n : ℕ) → length (records f n) ≡ n * width
      unfolding records
      records_length zero = omega (arith, zero-mul width)
      records_length (suc n) = omega (arith, length-append (records f n) (f n), wide n, records_length n, suc-mul n width)

      -- number p of the list is number k of record i, whatever stands behind
      pub records_at : (n : ℕ) (rest : List A) (i p k : ℕ) (d : A) → i < n → k < width → p ≡ i * width + k → get_or (records f n ++ rest) p d ≡ get_or (f i) k d
      unfolding records
      records_at zero rest i p k d h l e = absurd (omega arith)
      records_at (suc n) rest i p k d h l e =
          ap (λ (z : List A). get_or z p d) (append_assoc (records f n) (f n) rest)
          ∙ elim (ℕ_discrete i n) [
            | yes s ↦ ap (λ (q : ℕ). get_or (records f n ++ (f n ++ rest)) q d) (last s) ∙ get_or-append-add (records f n) (f n ++ rest) k d ∙ get_or-append (f n) rest d k (omega (arith, wide n)) ∙ ap (λ (j : ℕ). get_or (f j) k d) (sym s)
            | no o ↦ records_at n (f n ++ rest) i p k d (omega arith) l e
          ]
        where
          last : i ≡ n → p ≡ length (records f n) + k
          last s = omega (arith, records_length n, ap (λ (j : ℕ). j * width) s)

  -- ---- records, cut after so many
  pub records_same : (f g : ℕ → List A) (n : ℕ) → ((k : ℕ) → k < n → f k ≡ g k) → records f n ≡ records g n
  unfolding records
  records_same f g zero h = refl
  records_same f g (suc n) h = rw (records_same f g n (λ k l. h k (omega arith)), h n (omega arith))

  pub records_cut : (f : ℕ → List A) (a b : ℕ) → records f (a + b) ≡ records f a ++ records (λ k. f (a + k)) b
  unfolding records
  records_cut f a zero = ap (records f) (add-zero a) ∙ sym (append-nil (records f a))
  records_cut f a (suc b) =
      ap (records f) (add-suc a b) ∙ ap (λ (l : List A). l ++ f (a + b)) (records_cut f a b) ∙ append_assoc (records f a) (records (λ k. f (a + k)) b) (f (a + b))
