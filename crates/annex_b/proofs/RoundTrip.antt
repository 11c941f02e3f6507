-- Splitting a stream that was put together of units after start codes finds the same units.
use Prim.Native.Nat.{ℕ, suc, ◌+◌, ◌-◌, ◌<◌}
use mathlib.Core.Path.{◌≡◌, refl, sym, ap, ◌∙◌}
use mathlib.Core.List.{List, [], ◌∷◌, ◌++◌, map, append_assoc, append-nil}
use native.Mathlib.Omega.{arith}
use lib.ListN.{length, take, drop, length-append}
use lib.Seq.{take_at, take-append-add, take-length, drop-append-add, drop-append_seam}
use Rattle.parse.specs.Outcome.{accept}
use Rattle.parse.proofs.Lent.{lent_within}
use Rattle.boxes.specs.Parts.{held}
use Rattle.start_code.specs.StartCode.{bytes_before, starts_with_code, scan, start_code_from}
use Rattle.start_code.specs.Splittable.{Splittable}
use Rattle.start_code.proofs.StartCodes.{scan_none, scan_stays, scan_then_code, scan_then_four}
use Rattle.start_code.proofs.Splittable.{no_code, last_byte}
use Rattle.annex_b.specs.Stream.{trim, stream_units_from, split_stream, StartCode, three, four, code_bytes, annex_b}
use Rattle.annex_b.specs.RoundTrip.{AllSplittable, SplitsBack, SameUnits, one_if_three, threes, lengths, CountsWhatIsWritten, Shorter}
use Rattle.annex_b.proofs.Trim.{trim_zero, trim_whole}
use Rattle.annex_b.proofs.Streams.{units_scan, units_end, step_unit}

-- its last three bytes are where the scan stops
scan_code : (c : StartCode) (r : List ℕ) → scan (code_bytes c ++ r) + 3 ≡ length (code_bytes c)
unfolding scan bytes_before starts_with_code
scan_code three r = refl
scan_code four r = refl

stops_within : (c : StartCode) (r : List ℕ) → scan (code_bytes c ++ r) < length (code_bytes c ++ r)
unfolding scan bytes_before starts_with_code
stops_within three r = omega arith
stops_within four r = omega arith

-- what is between a unit's start code and the next one is the unit when trailing zeros are cut off
before_code : (c : StartCode) (u r : List ℕ) → Splittable u → trim (take (scan (u ++ (code_bytes c ++ r))) (u ++ (code_bytes c ++ r))) ≡ u
before_code three u r h =
    rw (scan_then_code u r (scan_none u (no_code u h)), take_at u (0 ∷ 0 ∷ 1 ∷ r) (length u) refl) (trim_whole u h.some (last_byte u h))
before_code four u r h =
    let e : suc (length u) ≡ length u + 1 = omega arith in
    rw (scan_then_four u r (scan_none u (no_code u h)), e, take-append-add u (0 ∷ 0 ∷ 0 ∷ 1 ∷ r) 1) (trim_zero u ∙ trim_whole u h.some (last_byte u h))

-- what lies between a start code and the next one, or the end of the stream, is the unit
unit_between : (code : ℕ → List ℕ → StartCode) (u : List ℕ) (us : List (List ℕ)) → Splittable u
    → trim (take (scan (u ++ annex_b code us)) (u ++ annex_b code us)) ≡ u
unfolding annex_b
unit_between code u [] h = rw (append-nil u, scan_none u (no_code u h), take-length u) (trim_whole u h.some (last_byte u h))
unit_between code u (v ∷ us) h = before_code (code 0 v) u (v ++ annex_b (λ k. code (suc k)) us) h

module _ (s u t : List ℕ) (q : ℕ) (here : scan (drop q s) ≡ 0) (inside : q < length s) (follows : drop (q + 3) s ≡ u ++ t)
    (between : trim (take (scan (u ++ t)) (u ++ t)) ≡ u) (some : 0 < length u) where
  -- the unit after a start code
  unit_first : stream_units_from s q ≡ record { start = q + 3; len = length u } ∷ stream_units_from s (q + 3 + length u)
  unit_first =
      let n : start_code_from s (q + 3) - (q + 3) ≡ scan (u ++ t) = omega (arith, ap scan follows) in
      step_unit s q here inside (start_code_from s (q + 3)) (length u) refl (rw (n, follows, between)) some

-- a unit and its start code after other bytes, and before the rest of the stream
module _ (c : StartCode) (pre u t : List ℕ) (h : Splittable u) (between : trim (take (scan (u ++ t)) (u ++ t)) ≡ u) where
  abbrev code : List ℕ
  code = code_bytes c

  abbrev stream : List ℕ
  stream = pre ++ (code ++ (u ++ t))

  at_pre : drop (length pre) stream ≡ code ++ (u ++ t)
  at_pre = drop-append_seam pre (code ++ (u ++ t))

  -- where its start code's last three bytes are
  place : start_code_from stream (length pre) + 3 ≡ length pre + length code
  place = let e = ap scan at_pre in let f = scan_code c (u ++ t) in omega arith

  after_code : drop (length pre + length code) stream ≡ u ++ t
  after_code = drop-append-add pre (code ++ (u ++ t)) (length code) ∙ drop-append_seam code (u ++ t)

  one_unit : stream_units_from stream (length pre)
      ≡ record { start = length pre + length code; len = length u } ∷ stream_units_from stream (length pre + length code + length u)
  one_unit =
      let e = ap scan at_pre in
      let w = stops_within c (u ++ t) in
      let l = length-append pre (code ++ (u ++ t)) in
      let p = place in
      sym (units_scan stream (length pre))
      ∙ (rw p at (unit_first stream u t (start_code_from stream (length pre)) (scan_stays stream (length pre)) (omega arith)
      (rw p after_code) between h.some))

  holds_unit : held stream (record { start = length pre + length code; len = length u }) ≡ u
  holds_unit = rw after_code (take_at u t (length u) refl)

  regroup : stream ≡ (pre ++ (code ++ u)) ++ t
  regroup = sym (append_assoc pre (code ++ u) t ∙ ap (λ (l : List ℕ). pre ++ l) (append_assoc code u t))

  length_done : length (pre ++ (code ++ u)) ≡ length pre + length code + length u
  length_done = let a = length-append pre (code ++ u) in let b = length-append code u in omega arith

-- from the place where the first start code begins on, the stream splits into the units
split_after : (code : ℕ → List ℕ → StartCode) (us : List (List ℕ)) → AllSplittable us
    → (pre : List ℕ) → map (held (pre ++ annex_b code us)) (stream_units_from (pre ++ annex_b code us) (length pre)) ≡ us
unfolding annex_b
split_after code [] h pre = rw (append-nil pre, units_end pre (length pre) (omega arith))
split_after code (u ∷ us) h pre =
    let c = code 0 u in
    let t = annex_b (λ k. code (suc k)) us in
    let done = pre ++ (code_bytes c ++ u) in
    let rest : map (held (done ++ t)) (stream_units_from (done ++ t) (length done)) ≡ us
    = split_after (λ k. code (suc k)) us (λ k l. h (suc k) (omega arith)) done in
    let first = h 0 (omega arith) in
    let b = unit_between (λ k. code (suc k)) u us first in
    rw (one_unit c pre u t first b, holds_unit c pre u t first b)
    (ap (λ (l : List (List ℕ)). u ∷ l) (rw (← regroup c pre u t first b, length_done c pre u t first b) at rest))

-- the units of the stream of units that can be split off are those units, in order, whichever start codes they have
pub split_assembled : (code : ℕ → List ℕ → StartCode) (us : List (List ℕ)) → AllSplittable us
    → map (held (annex_b code us)) (stream_units_from (annex_b code us) 0) ≡ us
split_assembled code us h = split_after code us h []

-- equal streams are of equal units, also where their start codes were chosen differently
pub assembled_injective : (code code' : ℕ → List ℕ → StartCode) (us vs : List (List ℕ)) → AllSplittable us → AllSplittable vs
    → annex_b code us ≡ annex_b code' vs → us ≡ vs
assembled_injective code code' us vs h k e =
    sym (split_assembled code us h) ∙ ap (λ (s : List ℕ). map (held s) (stream_units_from s 0)) e ∙ split_assembled code' vs k

-- ### the claims

pub splits_back : (code : ℕ → List ℕ → StartCode) → SplitsBack code
unfolding split_stream
splits_back code us h small = record {
  spans = stream_units_from (annex_b code us) 0;
  splits = lent_within (annex_b code us) (accept (stream_units_from (annex_b code us) 0)) small;
  units = split_assembled code us h;
}

pub same_units : (code : ℕ → List ℕ → StartCode) → SameUnits code
same_units code us vs = assembled_injective code code us vs

code_three : (c : StartCode) → length (code_bytes c) + one_if_three c ≡ 4
code_three three = refl
code_three four = refl

pub counts_what_is_written : (code : ℕ → List ℕ → StartCode) → CountsWhatIsWritten code
unfolding annex_b threes lengths
counts_what_is_written code [] = refl
counts_what_is_written code (u ∷ us) =
    let c = code_bytes (code 0 u) in
    let r = annex_b (λ k. code (suc k)) us in
    omega (arith, counts_what_is_written (λ k. code (suc k)) us, code_three (code 0 u), length-append c (u ++ r), length-append u r)

-- with four bytes throughout none has three
pub no_threes : (us : List (List ℕ)) → threes (λ k u. four) us ≡ 0
unfolding threes
no_threes [] = refl
no_threes (u ∷ us) = omega (arith, no_threes us)

pub shorter : (code : ℕ → List ℕ → StartCode) → Shorter code
shorter code us = omega (arith, counts_what_is_written code us, counts_what_is_written (λ k u. four) us, no_threes us)
