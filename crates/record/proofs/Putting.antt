-- A loop that lays numbers by their sizes one after the other, from place 2 on, and has laid k of them, up to place `at`.
use mathlib.Core.Path.{◌≡◌, sym, ap, ◌∙◌, subst}
use mathlib.Core.List.{List, [], ◌∷◌, ◌++◌}
use Prim.Native.Nat.{ℕ, ◌+◌, ◌≤◌, ◌<◌}
use native.Mathlib.Numerals.{add-one}
use native.Mathlib.Omega.{arith}
use lib.ListN.{length, get_or, take, drop, drop_of_length-le}
use lib.Seq.{drop-cons}
use Rattle.laws.proofs.Fill.{Writing, put_many, end}
use Rattle.laws.specs.Lists.{laid}
use Rattle.little_endian.specs.Bytes.{bytes_of}
use Rattle.little_endian.proofs.Laws.{length_bytes}
use Rattle.record.specs.Layout.{bytes_in, byte_sum}

-- a list at its element k
next : (l : List ℕ) (k : ℕ) → k < length l → drop k l ≡ get_or l k 0 ∷ drop (k + 1) l
next l k h = drop-cons l k 0 h ∙ ap (λ (j : ℕ). get_or l k 0 ∷ drop j l) (sym (add-one k))

pub record Laying (ns xs out₀ : List ℕ) (at k : ℕ) (out : List ℕ) : Type 0 where
  pub low : k ≤ length ns
  pub long : length out ≡ length out₀
  pub left : at + byte_sum (drop k ns) ≡ 2 + byte_sum ns
  pub writing : Writing (take 2 out₀ ++ bytes_in ns xs) out₀ at out (bytes_in (drop k ns) (drop k xs))

module _ {ns xs out₀ : List ℕ} where
  module _ {at k n : ℕ} {out : List ℕ} (i : Laying ns xs out₀ at k out) (h : k < length ns) (g : k < length xs) (en : n ≡ get_or ns k 0) where
    left_more : at + n + byte_sum (drop (k + 1) ns) ≡ 2 + byte_sum ns
    left_more = omega (arith, i.left, ap byte_sum (next ns k h))

    pub lay_room : 2 + byte_sum ns ≤ length out₀ → at + n ≤ length out
    lay_room r = omega (arith, left_more, i.long)

    pub lay_turn : {x : ℕ} {out' : List ℕ} → 2 + byte_sum ns ≤ length out₀ → x ≡ get_or xs k 0 → out' ≡ laid out at (bytes_of n x) → Laying ns xs out₀ (at + n) (k + 1) out'
    unfolding bytes_in
    lay_turn {x} {out'} r ex e = record { low = omega arith; long = more.long; left = left_more; writing = more }
      where
        more : Writing (take 2 out₀ ++ bytes_in ns xs) out₀ (at + n) out' (bytes_in (drop (k + 1) ns) (drop (k + 1) xs))
        more =
            put_many (bytes_of n x) (length_bytes n x) (lay_room r)
            (e ∙ ap (λ (m : ℕ). (take at out ++ bytes_of n x) ++ drop (at + m) out) (length_bytes n x))
            (subst (λ (l : List ℕ). Writing (take 2 out₀ ++ bytes_in ns xs) out₀ at out l)
            (ap (λ (l : List ℕ). bytes_in l (drop k xs)) (next ns k h) ∙ ap (λ (l : List ℕ). bytes_in (get_or ns k 0 ∷ drop (k + 1) ns) l) (next xs k g)
            ∙ ap (λ (m : ℕ). bytes_of m (get_or xs k 0) ++ bytes_in (drop (k + 1) ns) (drop (k + 1) xs)) (sym en)
            ∙ ap (λ (y : ℕ). bytes_of n y ++ bytes_in (drop (k + 1) ns) (drop (k + 1) xs)) (sym ex)) i.writing)

  pub lay_end : {at k : ℕ} {out : List ℕ} → Laying ns xs out₀ at k out → length ns ≤ k → out ≡ (take 2 out₀ ++ bytes_in ns xs) ++ drop (2 + byte_sum ns) out₀
  unfolding bytes_in
  lay_end {at} {k} {out} i h =
      end (subst (λ (l : List ℕ). Writing (take 2 out₀ ++ bytes_in ns xs) out₀ at out l) (ap (λ (l : List ℕ). bytes_in l (drop k xs)) none) i.writing)
      ∙ ap (λ (j : ℕ). (take 2 out₀ ++ bytes_in ns xs) ++ drop j out₀) whole
    where
      none : drop k ns ≡ []
      none = drop_of_length-le ns {i = k} h

      whole : at ≡ 2 + byte_sum ns
      whole = omega (arith, i.left, ap byte_sum none)
