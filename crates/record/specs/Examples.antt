-- Worked records: their bytes, each limit of the rule at its end, the orders of the numbers.
use Rattle.std.specs.Prelude.{◌≡◌, refl, true, false, List, [], ◌∷◌, ◌++◌, ℕ, replicate, Ok, Err}
use Rattle.numbers.specs.declared.Number.TheVariants.{OtherMark, ShortRecord, BrokenRule}
use Rattle.little_endian.specs.Bytes.{bytes_of, value_of}
use Rattle.grid.specs.Step.{step_of}
use Rattle.grid.specs.Grid.{places_of}
use Rattle.record.specs.Layout.{bytes_in, numbers_in}
use Rattle.record.specs.Rule.{stored_answer, sigma_taken, counts_taken, allowed}
use Rattle.record.specs.Records.{form_nf, size_of, bytes_as, written_as, read_as}
use Rattle.record.specs.declared.Record.{Record}

-- a shot of 26 by 27, which has 23 × 24 = 552 windows, with this answer, sigma, first band and rail; 12 windows are in the others
abbrev shot : ℕ → ℕ → ℕ → ℕ → Record
shot answer sigma b0 rail =
    record {
      shot = 0x0403_0201;
      width = 26;
      height = 27;
      answer = answer;
      sigma = sigma;
      b0 = b0;
      b1 = 3;
      b2 = 4;
      b3 = 5;
      rail = rail;
    }

-- sigma 2, 513 + 12 windows kept
abbrev quiet : Record
quiet = shot 0 0x4000_0000 513 27

abbrev quiet_bytes : List ℕ
quiet_bytes =
    0x4E ∷ 0x46 ∷ 1 ∷ 2 ∷ 3 ∷ 4 ∷ 26 ∷ 0 ∷ 27 ∷ 0 ∷ 0 ∷ 0 ∷ 0 ∷ 0 ∷ 0x40
    ∷ 1 ∷ 2 ∷ 0 ∷ 0 ∷ 3 ∷ 0 ∷ 0 ∷ 0 ∷ 4 ∷ 0 ∷ 0 ∷ 0 ∷ 5 ∷ 0 ∷ 0 ∷ 0 ∷ 27 ∷ 0 ∷ 0 ∷ 0 ∷ []

pub thirty_five : size_of form_nf ≡ 35
thirty_five = refl

pub worked_bytes : bytes_as form_nf quiet ≡ quiet_bytes
unfolding bytes_as bytes_in bytes_of
worked_bytes = refl

-- ---- the rule

pub answers : (stored_answer 0 ≡ true) × (stored_answer 5 ≡ true) × (stored_answer 6 ≡ true) × (stored_answer 7 ≡ true)
    × (stored_answer 1 ≡ false) × (stored_answer 4 ≡ false) × (stored_answer 8 ≡ false) × (stored_answer 256 ≡ false)
unfolding stored_answer
answers = (refl, refl, refl, refl, refl, refl, refl, refl)

-- 1,000 is the largest; then come the next float, minus zero and a NaN
pub sigmas : (sigma_taken 0 0 512 ≡ true) × (sigma_taken 0 0x447A_0000 512 ≡ true) × (sigma_taken 0 0x447A_0001 512 ≡ false)
    × (sigma_taken 0 0x8000_0000 512 ≡ false) × (sigma_taken 0 0x7FC0_0000 512 ≡ false)
unfolding sigma_taken
sigmas = (refl, refl, refl, refl, refl)

-- 512 windows are asked of a figure alone, and sigma is zero without one
pub kept : (sigma_taken 0 0 511 ≡ false) × (sigma_taken 5 0 511 ≡ true) × (sigma_taken 5 0 512 ≡ true) × (sigma_taken 6 1 512 ≡ false)
unfolding sigma_taken
kept = (refl, refl, refl, refl)

-- 2,049 by 4 has 1,023 windows at step 2 and 2,046 at step 1
pub passes : (counts_taken 2049 4 1023 ≡ true) × (counts_taken 2049 4 2046 ≡ true) × (counts_taken 2049 4 1024 ≡ false)
unfolding counts_taken places_of step_of
passes = (refl, refl, refl)

-- the whole rule: a figure, 5 with as many kept; one window too few or too many, 511 kept
pub rules : (allowed quiet ≡ true) × (allowed (shot 5 0 513 27) ≡ true) × (allowed (shot 5 0 0 540) ≡ true)
    × (allowed (shot 0 0x4000_0000 513 26) ≡ false) × (allowed (shot 0 0x4000_0000 513 28) ≡ false)
    × (allowed (shot 0 0x4000_0000 499 41) ≡ false) × (allowed (shot 0 0x4000_0000 500 40) ≡ true)
unfolding allowed stored_answer sigma_taken counts_taken places_of step_of
rules = (refl, refl, refl, refl, refl, refl, refl)

-- 2^32 - 1 windows in a band and 541 in the rail: in 32 bits they would be 552 with the 12 others
pub not_wrapped : allowed (shot 5 0 0xFFFF_FFFF 541) ≡ false
unfolding allowed stored_answer sigma_taken counts_taken places_of step_of
not_wrapped = refl

-- sides of w by h with n windows, all of them dropped
abbrev sided : ℕ → ℕ → ℕ → Record
sided w h n = record { shot = 0; width = w; height = h; answer = 5; sigma = 0; b0 = 0; b1 = 0; b2 = 0; b3 = 0; rail = n }

-- with the windows that the grid has there, or would have; 65,540 by 4 with the one of 4 by 4, to which it is not cut
pub sides : (allowed (sided 4 4 1) ≡ true) × (allowed (sided 3 4 0) ≡ false) × (allowed (sided 4 3 0) ≡ false)
    × (allowed (sided 16384 4 5461) ≡ true) × (allowed (sided 16385 4 5461) ≡ false)
    × (allowed (sided 4 16384 1820) ≡ true) × (allowed (sided 4 16385 1820) ≡ false) × (allowed (sided 65540 4 1) ≡ false)
unfolding allowed stored_answer sigma_taken counts_taken places_of step_of
sides = (refl, refl, refl, refl, refl, refl, refl, refl)

-- at step 2, 2,049 by 4 has 1,023 windows and 4 by 2,049 has 511
pub sides_not_exchanged : (allowed (sided 2049 4 1023) ≡ true) × (allowed (sided 4 2049 1023) ≡ false)
unfolding allowed stored_answer sigma_taken counts_taken places_of step_of
sides_not_exchanged = (refl, refl)

-- ---- writing

-- one byte beyond stays
pub writes : written_as form_nf quiet (replicate 36 9) ≡ record { number = 0; bytes = quiet_bytes ++ (9 ∷ []) }
unfolding written_as bytes_as bytes_in bytes_of allowed stored_answer sigma_taken counts_taken places_of step_of
writes = refl

-- 18; and 19 before it
pub refused_writes : (written_as form_nf quiet (replicate 34 9) ≡ record { number = 18; bytes = replicate 34 9 })
    × (written_as form_nf (sided 3 4 0) (replicate 34 9) ≡ record { number = 19; bytes = replicate 34 9 })
    × (written_as form_nf (sided 3 4 0) (replicate 36 9) ≡ record { number = 19; bytes = replicate 36 9 })
unfolding written_as allowed stored_answer sigma_taken counts_taken places_of step_of
refused_writes = (refl, refl, refl)

-- ---- reading

pub reads : read_as form_nf (quiet_bytes ++ (9 ∷ 9 ∷ [])) ≡ Ok quiet
unfolding read_as numbers_in value_of allowed stored_answer sigma_taken counts_taken places_of step_of
reads = refl

-- 18, then 17 by either byte of the mark, then 19
pub refused_reads : (read_as form_nf [] ≡ Err ShortRecord) × (read_as form_nf (replicate 34 0) ≡ Err ShortRecord)
    × (read_as form_nf (replicate 35 0) ≡ Err OtherMark)
    × (read_as form_nf (0x46 ∷ 0x4E ∷ replicate 33 0) ≡ Err OtherMark) × (read_as form_nf (0x4E ∷ 0x47 ∷ replicate 33 0) ≡ Err OtherMark)
    × (read_as form_nf (0x4E ∷ 0x46 ∷ replicate 33 0) ≡ Err BrokenRule)
unfolding read_as numbers_in value_of allowed
refused_reads = (refl, refl, refl, refl, refl, refl)
