-- The elements of a list that pass a test, in their order.
use Rattle.std.specs.Prelude.{Bool, cond, List, [], ◌∷◌}

abbrev pub filtered : {A : Type 0} → (A → Bool) → List A → List A
filtered p [] = []
filtered p (x ∷ l) = cond (p x) (x ∷ filtered p l) (filtered p l)
