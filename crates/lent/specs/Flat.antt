-- Records of so many numbers each, one after the other in a lent list. Definitions only.
use Rattle.std.specs.Prelude.{List, [], ◌++◌, ℕ, zero, suc, ◌*◌, take, drop}
use Rattle.std.proofs.lemmas.List.Edits.{sets}

-- record i, as the list of its numbers
unfoldable pub record_at : {A : Type 0} → ℕ → List A → ℕ → List A
record_at width list i = take width (drop (i * width) list)

-- record i written, number by number
unfoldable pub put : {A : Type 0} → ℕ → List A → ℕ → List A → List A
put width list i values = sets list (i * width) values

-- records 0, 1, .., so many of them, one after the other
unfoldable pub records : {A : Type 0} → (ℕ → List A) → ℕ → List A
records f zero = []
records f (suc n) = records f n ++ f n
