-- Numbers laid out by their sizes and read again: each undoes the other.
use mathlib.Core.Path.{◌≡◌, refl, sym, ap, ◌∙◌}
use mathlib.Core.List.{List, [], ◌∷◌, ◌++◌, append_assoc}
use Prim.Native.Nat.{ℕ, ◌+◌, ◌≤◌, ◌<◌}
use native.Mathlib.Omega.{arith}
use lib.ListN.{length, take, drop, length-append, length-drop}
use lib.Seq.{slice, take_at, drop_at, take-add, length-take-le, take-append-le, drop-append-le, drop-drop}
use Rattle.laws.proofs.Each.{each_take, each_drop}
use Rattle.little_endian.specs.Bytes.{bytes_of, value_of, Bytes}
use Rattle.little_endian.proofs.Laws.{length_bytes, value_bytes, bytes_value}
use Rattle.record.specs.Layout.{bytes_in, numbers_in, byte_sum, Fit}

-- ---- a part of a list, cut from its start
pub slice_is : {A : Type 0} (at n : ℕ) (l : List A) → at + n ≤ length l → slice at (at + n) l ≡ take n (drop at l)
slice_is {A} at n l h = ap (λ (k : List A). drop at k) (take-add at n l) ∙ drop_at (take at l) (take n (drop at l)) at (length-take-le at l (omega arith))

-- ---- round trips

pub length_laid : (ns xs : List ℕ) → Fit ns xs → length (bytes_in ns xs) ≡ byte_sum ns
unfolding bytes_in Fit
length_laid [] xs f = refl
length_laid (n ∷ ns) [] f = absurd f
length_laid (n ∷ ns) (x ∷ xs) f = length-append (bytes_of n x) (bytes_in ns xs) ∙ ap (λ (m : ℕ). m + length (bytes_in ns xs)) (length_bytes n x) ∙ ap (λ (m : ℕ). n + m) (length_laid ns xs f.1)

pub numbers_bytes : (ns xs after : List ℕ) → Fit ns xs → numbers_in ns (bytes_in ns xs ++ after) ≡ xs
unfolding bytes_in numbers_in Fit
numbers_bytes [] [] after f = refl
numbers_bytes [] (x ∷ xs) after f = absurd f
numbers_bytes (n ∷ ns) [] after f = absurd f
numbers_bytes (n ∷ ns) (x ∷ xs) after f =
    ap (λ (l : List ℕ). value_of (take n l) ∷ numbers_in ns (drop n l)) (append_assoc (bytes_of n x) (bytes_in ns xs) after)
    ∙ ap (λ (l : List ℕ). value_of l ∷ numbers_in ns (drop n (bytes_of n x ++ (bytes_in ns xs ++ after)))) (take_at (bytes_of n x) (bytes_in ns xs ++ after) n (length_bytes n x))
    ∙ ap (λ (v : ℕ). v ∷ numbers_in ns (drop n (bytes_of n x ++ (bytes_in ns xs ++ after)))) (value_bytes n x f.0)
    ∙ ap (λ (l : List ℕ). x ∷ numbers_in ns l) (drop_at (bytes_of n x) (bytes_in ns xs ++ after) n (length_bytes n x))
    ∙ ap (λ (l : List ℕ). x ∷ l) (numbers_bytes ns xs after f.1)

pub bytes_numbers : (ns l : List ℕ) → Bytes l → byte_sum ns ≤ length l → bytes_in ns (numbers_in ns l) ≡ take (byte_sum ns) l
unfolding bytes_in numbers_in
bytes_numbers [] l b h = refl
bytes_numbers (n ∷ ns) l b h =
    ap (λ (m : ℕ). bytes_of m (value_of (take n l)) ++ bytes_in ns (numbers_in ns (drop n l))) (sym (length-take-le n l (omega arith)))
    ∙ ap (λ (k : List ℕ). k ++ bytes_in ns (numbers_in ns (drop n l))) (bytes_value (take n l) (each_take (λ b. b < 256) n l b))
    ∙ ap (λ (k : List ℕ). take n l ++ k) (bytes_numbers ns (drop n l) (each_drop (λ b. b < 256) n l b) (omega (arith, length-drop n l)))
    ∙ sym (take-add n (byte_sum ns) l)

-- only as many bytes are read as the sizes are in all
pub numbers_front : (ns l : List ℕ) (after : List ℕ) → byte_sum ns ≤ length l → numbers_in ns (l ++ after) ≡ numbers_in ns l
unfolding numbers_in
numbers_front [] l after h = refl
numbers_front (n ∷ ns) l after h =
    ap (λ (k : List ℕ). value_of k ∷ numbers_in ns (drop n (l ++ after))) (take-append-le n l after (omega arith))
    ∙ ap (λ (k : List ℕ). value_of (take n l) ∷ numbers_in ns k) (drop-append-le n l after (omega arith))
    ∙ ap (λ (k : List ℕ). value_of (take n l) ∷ k) (numbers_front ns (drop n l) after (omega (arith, length-drop n l)))

-- ---- numbers by the places of their bytes

abbrev pub slices_at : List ℕ → ℕ → List ℕ → List ℕ
slices_at [] at l = []
slices_at (n ∷ ns) at l = value_of (slice at (at + n) l) ∷ slices_at ns (at + n) l

pub numbers_at : (ns : List ℕ) (at : ℕ) (l : List ℕ) → at + byte_sum ns ≤ length l → slices_at ns at l ≡ numbers_in ns (drop at l)
unfolding numbers_in
numbers_at [] at l h = refl
numbers_at (n ∷ ns) at l h =
    ap (λ (k : List ℕ). value_of k ∷ slices_at ns (at + n) l) (slice_is at n l (omega arith))
    ∙ ap (λ (k : List ℕ). value_of (take n (drop at l)) ∷ k)
    (numbers_at ns (at + n) l (omega arith) ∙ ap (λ (k : List ℕ). numbers_in ns k) (sym (drop-drop n at l)))
