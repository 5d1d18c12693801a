-- A loop that writes ten numbers, four bytes each, and has written k of them.
use mathlib.Core.Path.{◌≡◌, ap, ◌∙◌, subst}
use Prim.Native.Nat.{ℕ, ◌+◌, ◌*◌, ◌≤◌, ◌<◌}
use mathlib.Core.List.{List, ◌++◌}
use native.Mathlib.Omega.{arith}
use lib.ListN.{length, get_or, take, drop}
use Rattle.laws.proofs.Fill.{Rows, rows_put, rows_end}
use Rattle.laws.specs.Lists.{laid}
use Rattle.little_endian.specs.Bytes.{bytes_of}
use Rattle.little_endian.proofs.Laws.{length_bytes}
use Rattle.answer.specs.Fields.{bytes_of_words}

pub record Written (words out₀ : List ℕ) (k : ℕ) (out : List ℕ) : Type 0 where
  pub rows : Rows (λ i. bytes_of 4 (get_or words i 0)) out₀ 10 (k * 4) k out

module _ {words out₀ : List ℕ} where
  pub written_turn : {k v : ℕ} {out out' : List ℕ} → 40 ≤ length out₀ → k < 10 → v ≡ get_or words k 0 → out' ≡ laid out (k * 4) (bytes_of 4 v)
      → Written words out₀ k out → Written words out₀ (k + 1) out'
  written_turn {k} {v} {out} {out'} room h e w r =
      record {
        rows = subst (λ (i : ℕ). Rows (λ i. bytes_of 4 (get_or words i 0)) out₀ 10 i (k + 1) out') (next k)
            (rows_put r.rows h (length_bytes 4 (get_or words k 0)) (omega arith)
            (w ∙ ap (λ (x : ℕ). laid out (k * 4) (bytes_of 4 x)) e
            ∙ ap (λ (n : ℕ). (take (k * 4) out ++ bytes_of 4 (get_or words k 0)) ++ drop (k * 4 + n) out) (length_bytes 4 (get_or words k 0))));
      }
    where
      next : (k : ℕ) → k * 4 + 4 ≡ (k + 1) * 4
      next k = omega arith

  pub written_end : {k : ℕ} {out : List ℕ} → 10 ≤ k → Written words out₀ k out → out ≡ bytes_of_words words ++ drop 40 out₀
  unfolding bytes_of_words
  written_end {k} {out} h r = rows_end r.rows h ∙ ap (λ (i : ℕ). bytes_of_words words ++ drop i out₀) (forty k r.rows.low h)
    where
      forty : (k : ℕ) → k ≤ 10 → 10 ≤ k → k * 4 ≡ 40
      forty k a b = omega arith
