-- What the stream of an access unit says of its units, under either choice of start codes (SCOPE 3.12). The claims are `AssemblySplits`,
-- `AssemblySame`, `AssemblyCounts`, `FourCounts` and `ShortIsShorter`.
use Rattle.std.specs.Prelude.{ℕ, ◌+◌, ◌*◌, ◌^◌, ◌≤◌, ◌≡◌, List, map, length, Option}
use Rattle.parse.specs.Outcome.{accept, refuse}
use Rattle.annex_b.specs.RoundTrip.{AllSplittable, SplitsInto, threes, lengths}
use Rattle.full.specs.declared.VvcConfig.{VvcConfig}
use Rattle.access_unit.specs.declared.Source.{Source}
use Rattle.access_unit.specs.AccessUnit.{access_unit, held_in, code_of, assemble}
use Rattle.access_unit.specs.declared.StartCodes.{StartCodes}
use Rattle.access_unit.specs.declared.StartCodes.TheVariants.{Four, Short}

-- the stream s of the units of an access unit, under a choice of start codes
pub record Assembly (codes : StartCodes) (s : List ℕ) (units : List (List ℕ)) : Type 0 where
  pub head : VvcConfig
  pub list : List ℕ
  pub item : List ℕ
  pub tols : Option ℕ
  pub sources : List Source
  pub found : access_unit head list item tols ≡ accept sources
  pub given : assemble codes head list item tols ≡ accept s
  pub held : map (held_in list item) sources ≡ units

-- Where no unit that is kept is empty, contains 00 00 01 or ends in 00 and the stream has at most 2^30 bytes, splitting returns exactly them, in
-- order.
abbrev pub AssemblySplits : StartCodes → Type 0
AssemblySplits codes = (s : List ℕ) (us : List (List ℕ)) → Assembly codes s us → AllSplittable us → length s ≤ 2 ^ 30 → SplitsInto s us

-- Two equal streams that were made under one choice are of equal units.
abbrev pub AssemblySame : StartCodes → Type 0
AssemblySame codes =
    (s : List ℕ) (us vs : List (List ℕ)) → Assembly codes s us → Assembly codes s vs → AllSplittable us → AllSplittable vs → us ≡ vs

-- The length of the stream counts what was written, under either choice: it is 4 times the number of kept units plus their lengths, less 1 for each
-- start code of three bytes.
abbrev pub AssemblyCounts : Type 0
AssemblyCounts =
    (codes : StartCodes) (s : List ℕ) (us : List (List ℕ)) → Assembly codes s us → length s + threes (code_of codes) us ≡ 4 * length us + lengths us

-- With four bytes throughout the length of the stream is 4 times the number of kept units plus their lengths.
abbrev pub FourCounts : Type 0
FourCounts = (s : List ℕ) (us : List (List ℕ)) → Assembly Four s us → length s ≡ 4 * length us + lengths us

-- Both choices have the same refusals, and the stream with short codes is shorter than the other by exactly the number of units that have three
-- bytes, so never longer.
pub record ShortIsShorter (h : VvcConfig) (list item : List ℕ) (tols : Option ℕ) : Type 0 where
  pub refused : (n : ℕ) → access_unit h list item tols ≡ refuse n → (codes : StartCodes) → assemble codes h list item tols ≡ refuse n
  pub long : (us : List Source) → access_unit h list item tols ≡ accept us
      → (s t : List ℕ) → assemble Short h list item tols ≡ accept s → assemble Four h list item tols ≡ accept t
      → length s + threes (code_of Short) (map (held_in list item) us) ≡ length t
