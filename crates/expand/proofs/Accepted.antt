-- What an accepted expansion of units returns: a head with a PTL that can be written, and the list of the grouped units.
use Prim.Native.Nat.{ℕ}
use native.Mathlib.Omega.{arith}
use mathlib.Core.Path.{◌≡◌, refl, sym, ap, subst}
use mathlib.Core.Bool.{Bool, true, false}
use mathlib.Core.List.{List, [], ◌∷◌, map}
use lib.Dec.{eqb}
use Rattle.std.specs.Prelude.{if◌then◌else◌}
use Rattle.parse.specs.Outcome.{Outcome, accept, refuse, and_then}
use Rattle.parse.specs.Steps.{or_refuse}
use Rattle.boxes.specs.Parts.{held}
use Rattle.boxes.specs.Bytes.{AllBytes}
use Rattle.boxes.specs.declared.Span.{Span}
use Rattle.unit_list.specs.UnitList.{encode}
use Rattle.unit_list.specs.Answers.{list_units}
use Rattle.ptl.specs.declared.VvcPtlRecord.{VvcPtlRecord}
use Rattle.ptl_record.proofs.RoundTrip as P
use Rattle.sps.specs.Sps.{parse_sps}
use Rattle.sps.specs.declared.SpsHead.{SpsHead}
use Rattle.vps.specs.Vps.{vps_first_ptl}
use Rattle.grouping.specs.Grouping.{having_type, first_element, grouped}
use Rattle.grouping.proofs.GroupedFits.{Every}
use Rattle.compact.specs.declared.CompactVvcConfig.{CompactVvcConfig}
use Rattle.expand.specs.Expand.{multi_layer_vps, ptl_of_sets, expanded_head, with_list, expand_units, to_full}
use Rattle.expand.specs.declared.Expanded.{Expanded}
use Rattle.expand.specs.declared.Picture.{Picture}
use Rattle.expand.proofs.Ptls.{sps_ptl, vps_ptl_lem}

-- when one step after another is accepted, both are
pub then_accept : {A B : Type 0} (o : Outcome A) (f : A → Outcome B) (b : B) → and_then o f ≡ accept b → (a : A) × (o ≡ accept a) × (f a ≡ accept b)
then_accept (accept a) f b e = (a, refl, e)
then_accept (refuse n) f b e = let z : ◌≡◌ {A = ℕ} 0 1 = cc in absurd (omega arith)

-- the first unit of a type is one of the units
first_is : (P : List ℕ → Type 0) (t : ℕ) (us : List (List ℕ)) → Every P us → (e : ℕ) (u : List ℕ)
    → or_refuse e (first_element (having_type t us)) ≡ accept u → P u
unfolding having_type
first_is P t [] p e u h = let z : ◌≡◌ {A = ℕ} 0 1 = cc in absurd (omega arith)
first_is P t (v ∷ us) p e u h = go (eqb (type_of v) t) (first_is P t us p.1 e u) h
  where
    type_of : List ℕ → ℕ
    type_of v = Rattle.nal.specs.Header.type_or31 v

    go : (c : Bool) → (or_refuse e (first_element (having_type t us)) ≡ accept u → P u)
        → or_refuse e (first_element (if c then v ∷ having_type t us else having_type t us)) ≡ accept u → P u
    go true r h = let z : v ≡ u = cc in subst P z p.0
    go false r h = r h

module _ (us : List (List ℕ)) (bytes : Every AllBytes us) where
  ptl_of_lem : (h : SpsHead) (u : List ℕ) (p : VvcPtlRecord) → AllBytes u → parse_sps u ≡ accept h → ptl_of_sets h us ≡ accept p → P.Writable p
  unfolding ptl_of_sets
  ptl_of_lem h u p b e f = go h.ptl_present_flag refl f
    where
      go : (c : Bool) → h.ptl_present_flag ≡ c
          → (if c then accept h.ptl else and_then (or_refuse 18 (first_element (having_type 14 us))) (λ v. vps_first_ptl v)) ≡ accept p → P.Writable p
      go true x y = let z : h.ptl ≡ p = cc in subst P.Writable z (sps_ptl u h b e x)
      go false x y =
          let r = then_accept (or_refuse 18 (first_element (having_type 14 us))) vps_first_ptl p y in
          vps_ptl_lem r.0 p (first_is AllBytes 14 us bytes 18 r.0 r.1) r.2

  -- when the steps are accepted, expansion is
  expands_as : (c : CompactVvcConfig) (pic : Picture) (x : Unit {0}) (u : List ℕ) (h : SpsHead) (p : VvcPtlRecord)
      → multi_layer_vps c.multi_layer_flag us ≡ accept x
      → or_refuse 17 (first_element (having_type 15 us)) ≡ accept u → parse_sps u ≡ accept h → ptl_of_sets h us ≡ accept p
      → expand_units c pic us ≡ accept (with_list (expanded_head c pic p) (encode (grouped us)))
  unfolding expand_units
  expands_as c pic x u h p d e f g = rw (d, e, f, g)

  pub record Expansion (c : CompactVvcConfig) (pic : Picture) (full : Expanded) (list : List ℕ) : Type 0 where
    pub ptl : VvcPtlRecord
    pub writable : P.Writable ptl
    pub head : full.head ≡ expanded_head c pic ptl
    pub is_list : list ≡ encode (grouped us)
    -- the picture changes the head alone
    pub of_any : (any : Picture) → expand_units c any us ≡ accept (with_list (expanded_head c any ptl) (encode (grouped us)))

  pub expansion : (c : CompactVvcConfig) (pic : Picture) (full : Expanded) (list : List ℕ) → expand_units c pic us ≡ accept (full, list)
      → Expansion c pic full list
  unfolding expand_units
  expansion c pic full list e =
      let q = then_accept (multi_layer_vps c.multi_layer_flag us) (λ _. after) (full, list) e in
      let r = then_accept (or_refuse 17 (first_element (having_type 15 us)))
      (λ u. and_then (parse_sps u) (λ h. and_then (ptl_of_sets h us) (λ p. accept (made p)))) (full, list) q.2 in
      let s = then_accept (parse_sps r.0) (λ h. and_then (ptl_of_sets h us) (λ p. accept (made p))) (full, list) r.2 in
      let t = then_accept (ptl_of_sets s.0 us) (λ p. accept (made p)) (full, list) s.2 in
      let m : made t.0 ≡ (full, list) = cc in
      record {
        ptl = t.0;
        writable = ptl_of_lem s.0 r.0 t.0 (first_is AllBytes 15 us bytes 17 r.0 r.1) s.1 t.1;
        head = ap (λ (x : Expanded × List ℕ). x.0.head) (sym m);
        is_list = ap (λ (x : Expanded × List ℕ). x.1) (sym m);
        of_any = λ any. expands_as c any q.0 r.0 s.0 t.0 q.1 r.1 s.1 t.1;
      }
    where
      made : VvcPtlRecord → Expanded × List ℕ
      made p = with_list (expanded_head c pic p) (encode (grouped us))

      after : Outcome (Expanded × List ℕ)
      after =
          and_then (or_refuse 17 (first_element (having_type 15 us))) (λ u. and_then (parse_sps u) (λ h. and_then (ptl_of_sets h us) (λ p. accept (made p))))

-- an accepted expansion of a list is one of its units
pub of_units_lem : (c : CompactVvcConfig) (pic : Picture) (list : List ℕ) (xs : List Span) (r : Expanded × List ℕ) → list_units list ≡ accept xs
    → to_full c pic list ≡ accept r → expand_units c pic (map (held list) xs) ≡ accept r
unfolding to_full
of_units_lem c pic list xs r e f = rw e at f
