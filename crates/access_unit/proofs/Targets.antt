-- Laws of the target, of the units that are dropped, and of those that may lead, by the cases of the code.
use Prim.Native.Nat.{ℕ, ◌^◌, ◌≤◌, ◌<◌}
use mathlib.Core.Path.{◌≡◌, refl, sym, ap, ◌∙◌}
use mathlib.Core.Bool.{Bool, true, false, ◌||◌}
use mathlib.Core.List.{List}
use native.Mathlib.Omega.{arith}
use native.Mathlib.Decide.{dec_le}
use lib.Dec.{eqb}
use lib.ListN.{length}
use borrow.Author.Tests.{lt-leb}
use Rattle.std.specs.Prelude.{if◌then◌else◌, Option, None, Some, Result, Ok, Err}
use Rattle.error.specs.declared.Refusal.{Refusal}
use Rattle.parse.specs.Answers.{answer_of}
use Rattle.parse.specs.Outcome.{accept}
use Rattle.parse.proofs.Lent.{lent_within}
use Rattle.nal.specs.Header.{type_or31}
use Rattle.nal.specs.Kinds.{is_record_type, unit_kind, kind_of, is_picture_data, is_aud, is_record_of}
use Rattle.nal.specs.declared.UnitKind.{UnitKind}
use Rattle.nal.specs.declared.UnitKind.TheVariants.{PictureData, Record, Aud, Other}
use Rattle.nal.proofs.UnitKinds.{kind_picture}
use Rattle.opi.specs.Opi.{opi_ols_idx}
use Rattle.opi.specs.Answers.{ols_idx_given}
use Rattle.access_unit.specs.AccessUnit.{agrees, is_opi, keeps, leading_kind, may_lead}
use Rattle.access_unit.specs.inner.Gathered.{saved}
use Rattle.access_unit.proofs.Streams.{one_below}

-- whether a unit may lead
pub leads : (u : List ℕ) (k : UnitKind) → k ≡ kind_of u → may_lead u ≡ leading_kind k
unfolding may_lead
leads u k e = rw e

pub leads_opi : (u : List ℕ) (k : UnitKind) → k ≡ kind_of u → is_record_of 12 k ≡ true → may_lead u ≡ true
leads_opi u k e o = leads u k e ∙ rw o (either (is_aud k))
  where
    either : (b : Bool) → (b || true) ≡ true
    either true = refl
    either false = refl

-- whether a unit is kept
pub keeps_other : (target : Option ℕ) (u : List ℕ) (k : UnitKind) → k ≡ kind_of u → is_record_of 12 k ≡ false → keeps target u ≡ true
unfolding keeps
keeps_other target u k e h = rw (← e, h)

-- picture data is kept, does not lead, and has three bytes with short codes
no_picture_above : (t : ℕ) → 11 < t → is_picture_data (unit_kind t) ≡ true → ⊥
unfolding unit_kind
no_picture_above t h e = go (is_record_type t) (eqb t 20) (rw (lt-leb t 11 h) at e)
  where
    go : (b c : Bool) → is_picture_data (if b then Record t else if c then Aud else Other) ≡ true → ⊥
    go true c e = let z : ◌≡◌ {A = ℕ} 0 1 = cc in omega arith
    go false true e = let z : ◌≡◌ {A = ℕ} 0 1 = cc in omega arith
    go false false e = let z : ◌≡◌ {A = ℕ} 0 1 = cc in omega arith

module _ (u : List ℕ) (t : ℕ) (is : t ≡ type_or31 u) (picture : is_picture_data (unit_kind t) ≡ true) where
  below : type_or31 u < 12
  below = elim (dec_le t 11) [ yes h ↦ omega arith | no h ↦ absurd (no_picture_above t (omega arith) picture) ]

  kind_is : PictureData (type_or31 u) ≡ kind_of u
  kind_is = sym (kind_picture (type_or31 u) below)

  pub picture_kept : (target : Option ℕ) → keeps target u ≡ true
  picture_kept target = keeps_other target u (PictureData (type_or31 u)) kind_is refl

  pub picture_led : may_lead u ≡ false
  picture_led = leads u (PictureData (type_or31 u)) kind_is

  pub picture_saved : saved u ≡ 1
  picture_saved = sym (one_below (type_or31 u) below)

module _ (target : Option ℕ) (u : List ℕ) (opi : is_opi u ≡ true) where
  module _ (lent : length u ≤ 2 ^ 30) (r : Result (Option ℕ) Refusal) (said : answer_of r ≡ ols_idx_given u) where
    keeps_opi : agrees target (opi_ols_idx u) ≡ keeps target u
    unfolding keeps
    keeps_opi = rw opi

    given : answer_of r ≡ accept (opi_ols_idx u)
    given = said ∙ lent_within u (accept (opi_ols_idx u)) lent

    pub keeps_present : (v : ℕ) → r ≡ Ok (Some v) → agrees target (Some v) ≡ keeps target u
    keeps_present v e =
        let w : accept (Some v) ≡ accept (opi_ols_idx u) = ap answer_of (sym e) ∙ given in
        let x : Some v ≡ opi_ols_idx u = cc in
        ap (agrees target) x ∙ keeps_opi

  pub keeps_absent : length u ≤ 2 ^ 30 → (r : Result (Option ℕ) Refusal) → answer_of r ≡ ols_idx_given u
      → ((v : ℕ) → r ≡ Ok (Some v) → ⊥) → true ≡ keeps target u
  keeps_absent lent (Err e) said k =
      absurd (let w = given lent (Err e) said in let z : ◌≡◌ {A = ℕ} 0 1 = cc in omega arith)
  keeps_absent lent (Ok (Some v)) said k = absurd (k v refl)
  keeps_absent lent (Ok None) said k =
      let w = given lent (Ok None) said in
      let x : None ≡ opi_ols_idx u = cc in
      any target ∙ ap (agrees target) x ∙ keeps_opi lent (Ok None) said
    where
      any : (o : Option ℕ) → true ≡ agrees o None
      any None = refl
      any (Some t) = refl
