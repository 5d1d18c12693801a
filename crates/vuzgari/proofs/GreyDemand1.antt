-- Demand 1 at the grey file's calls from C: 4 is judged first, and all else is the reader's.
use mathlib.Core.Path.{◌≡◌, refl, sym, ap, ◌∙◌, subst}
use mathlib.Core.Logic.{◌↔◌, ◌⊎◌, inl, inr}
use mathlib.Core.List.{List}
use Prim.Native.Nat.{ℕ, ◌-◌, ◌≤◌, ◌<◌}
use native.Mathlib.Omega.{arith}
use lib.ListN.{length, take}
use lib.Seq.{take_all}
use Rattle.std.specs.Prelude.{Option, Some, None, Result, Ok, Err}
use Rattle.ieee.proofs.Naturals.{le_or_lt}
use Rattle.pgm.specs.declared.Head.{Head}
use Rattle.pgm.specs.declared.Image.{Image}
use Rattle.pgm.specs.Read.{header_at, head_of, header_bytes, image_at, front_read, read_of}
use Rattle.numbers.specs.declared.Number.{Number}
use Rattle.numbers.specs.declared.Number.TheVariants.{PgmHeader, PgmMaximum, PgmRaster}
use Rattle.numbers.specs.Numbers.{number_of}
use Rattle.numbers.proofs.Apart.{apart}
use Rattle.pgm.proofs.Heads.{missing_none, head_read, head_missing, head_front}
use Rattle.pgm.proofs.Judging.{as_whole}
use Rattle.pgm.proofs.Laws.{is_20, is_21, is_22, no_other, is_image_lem, front_decides}
use Rattle.vuzgari.specs.Grey.{header_shown, header_in, number_for}
use Rattle.vuzgari.specs.GreyDemand1.{HeaderAtC, JudgeAtC, HeaderMeetsAtC, JudgeMeetsAtC}
use Rattle.vuzgari.proofs.GreyCalls.{under_4, from_4}

-- ---- the header

module _ (front fields : List ℕ) where
  few_fields : length fields < 4 → HeaderAtC front fields (record { number = 4; fields = fields })
  few_fields l =
      record {
        only = inr (inl refl);
        four = (λ _. l, λ _. refl);
        missing = (λ e. absurd (omega arith), λ p. absurd (omega (arith, p.0)));
        stays = λ _. refl;
        given = λ k w h m raster s. absurd (omega arith);
      }

  by_head : 4 ≤ length fields → (H : Option Head) → head_of front ≡ H → HeaderAtC front fields (header_shown fields H)
  by_head l None e =
      record {
        only = inr (inr refl);
        four = (λ e. absurd (omega arith), λ p. absurd (omega arith));
        missing = (λ _. (l, (head_missing front).0 e), λ _. refl);
        stays = λ _. refl;
        given = λ k w h m raster s. absurd ((head_missing front).0 e w h m raster s);
      }
  by_head l (Some head) e =
      record {
        only = inl refl;
        four = (λ e. absurd (omega arith), λ p. absurd (omega arith));
        missing = (λ e. absurd (omega arith), λ p. missing_none (sym ((head_missing front).1 p.1) ∙ e));
        stays = λ n. absurd (n refl);
        given = λ k w h m raster t. same (header_at w h m (length front - length raster)) (ap (header_shown fields) (sym e ∙ head_read t));
      }
    where
      same : (H : Option Head) → header_shown fields (Some head) ≡ header_shown fields H
          → ((header_shown fields (Some head)).number ≡ 0) × ((header_shown fields (Some head)).fields ≡ (header_shown fields H).fields)
      same H e = (refl, ap (λ x. x.fields) e)

  pub header_meets_at_c : HeaderMeetsAtC front fields
  header_meets_at_c = elim (le_or_lt 4 (length fields)) [
    | inl l ↦ subst (HeaderAtC front fields) (sym (from_4 front fields l)) (by_head l (head_of front) refl)
    | inr l ↦ subst (HeaderAtC front fields) (sym (under_4 front fields l)) (few_fields l)
  ]

-- the longest header's bytes show the file's header, wherever they end
pub header_of_file : (file fields : List ℕ) (n : ℕ) → header_bytes ≤ n → header_in (take n file) fields ≡ header_in file fields
unfolding header_in
header_of_file file fields n enough = rw (head_front file n enough) refl

-- ---- the judgement

-- a refusal's number is its own, and an image's is 0
own : (r : Result Image Number) (why : Number) → (number_of why ≡ 0 → ⊥) → (number_for r ≡ number_of why) ↔ (r ≡ Err why)
own r why h = (λ e. by r e, λ e. ap number_for e)
  where
    by : (r : Result Image Number) → number_for r ≡ number_of why → r ≡ Err why
    by (Ok image) e = absurd (h (sym e))
    by (Err other) e = ap Err (apart other why e)

pub through : {A B C : Type 0} → A ↔ B → B ↔ C → A ↔ C
through f g = (λ a. g.0 (f.0 a), λ c. f.1 (g.1 c))

module _ (file : List ℕ) where
  number_0 : (r : Result Image Number) → r ≡ read_of file → number_for r ≡ 0
      → (w : ℕ) × (h : ℕ) × (start : ℕ) × (read_of file ≡ image_at w h start)
  number_0 (Ok image) e z = (image.width, image.height, image.start, sym e)
  number_0 (Err why) e z = absurd (some (no_other file why (sym e)))
    where
      some : (why ≡ PgmHeader) ⊎ ((why ≡ PgmMaximum) ⊎ (why ≡ PgmRaster)) → ⊥
      some (inl a) = omega (arith, ap number_of a)
      some (inr (inl a)) = omega (arith, ap number_of a)
      some (inr (inr a)) = omega (arith, ap number_of a)

  all : (r : Result Image Number) → r ≡ read_of file
      → (number_for r ≡ 0) ⊎ (number_for r ≡ 20) ⊎ (number_for r ≡ 21) ⊎ (number_for r ≡ 22)
  all (Ok image) e = inl refl
  all (Err why) e = inr (numbers (no_other file why (sym e)))
    where
      numbers : (why ≡ PgmHeader) ⊎ ((why ≡ PgmMaximum) ⊎ (why ≡ PgmRaster))
          → (number_of why ≡ 20) ⊎ ((number_of why ≡ 21) ⊎ (number_of why ≡ 22))
      numbers (inl a) = inl (ap number_of a)
      numbers (inr (inl a)) = inr (inl (ap number_of a))
      numbers (inr (inr a)) = inr (inr (ap number_of a))

  whole_judged : JudgeAtC file (number_for (read_of file))
  whole_judged =
      record {
        only = all (read_of file) refl;
        header = through (own (read_of file) PgmHeader (λ z. omega (arith, z))) (is_20 file);
        maximum = through (own (read_of file) PgmMaximum (λ z. omega (arith, z))) (is_21 file);
        raster = through (own (read_of file) PgmRaster (λ z. omega (arith, z))) (is_22 file);
        image = (
          λ e. let i = number_0 (read_of file) refl e in (i.0, i.1, i.2, (is_image_lem file i.0 i.1 i.2).0 i.3),
          λ (w, h, s, f). ap number_for ((is_image_lem file w h s).1 f),
        );
      }

  -- by as many first bytes as the longest header has, or by all
  pub judge_meets_at_c : (n : ℕ) → (header_bytes ≤ n) ⊎ (length file ≤ n) → JudgeMeetsAtC file n
  judge_meets_at_c n (inl enough) = subst (λ (r : Result Image Number). JudgeAtC file (number_for r)) (sym (front_decides file n enough)) whole_judged
  judge_meets_at_c n (inr all) =
      subst (λ (r : Result Image Number). JudgeAtC file (number_for r)) (sym (as_whole file (ap (λ (l : List ℕ). front_read l (length file)) (take_all n file all)))) whole_judged
