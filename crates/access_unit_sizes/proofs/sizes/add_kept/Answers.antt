-- `sizes::add_kept` adds a unit of the item that is kept.
use Prim.Native.Nat.{ℕ}
use mathlib.Core.Path.{◌≡◌, sym, ap, ◌∙◌}
use Rattle.boxes.specs.Parts.{held}
use Rattle.nal.specs.Header.{type_or31}
use Rattle.nal.specs.Kinds.{unit_kind, kind_of}
use Rattle.annex_b.specs.RoundTrip.{one_if_three}
use Rattle.access_unit.specs.AccessUnit.{keeps, code_of_type}
use Rattle.access_unit.specs.declared.StartCodes.TheVariants.{Short}
use Rattle.access_unit.specs.inner.Gathered.{saved}
use Rattle.access_unit.proofs.Targets.{leads, leads_opi, keeps_other, picture_kept, picture_led, picture_saved}
use Rattle.access_unit_sizes.proofs.sizes.add_kept.Goals as goal

pub returns-then-is_vcl : goal.returns-then-is_vcl
returns-then-is_vcl c =
    let type_at : c.type_or_31-nal_unit_type.result ≡ type_or31 (held c.args.item.now c.args.a) =
    c.type_or_31-nal_unit_type.ensures.0 ∙ ap type_or31 c.part-unit.ensures.holds in
    let a = c.args in
    let u = held a.item.now a.a in
    let p = sym c.is_vcl.ensures ∙ c.if-is_vcl.true in
    c.add.ensures ∙ rw (picture_kept u _ (type_at) p a.target, picture_led u _ (type_at) p, picture_saved u _ (type_at) p)

pub returns-then-opi_kept : goal.returns-then-opi_kept
returns-then-opi_kept c =
    let type_at : c.type_or_31-nal_unit_type.result ≡ type_or31 (held c.args.item.now c.args.a) =
    c.type_or_31-nal_unit_type.ensures.0 ∙ ap type_or31 c.part-unit.ensures.holds in
    let kind_at : let a = c.args in c.unit_kind-kind.result ≡ kind_of (held a.item.now a.a) =
    c.unit_kind-kind.ensures ∙ ap unit_kind (type_at) in
    let kept_is : let a = c.args in
    keeps a.target (held a.item.now a.a) ≡ c.opi_kept.result =
    ap (keeps c.args.target) (sym c.part-unit.ensures.holds) ∙ sym c.opi_kept.ensures in
    let saved_at : let a = c.args in c.type_saves-saved.result ≡ saved (held a.item.now a.a) =
    c.type_saves-saved.ensures.0 ∙ ap (λ (t : ℕ). one_if_three (code_of_type Short t)) (type_at) in
    let a = c.args in
    let m = leads_opi (held a.item.now a.a) c.unit_kind-kind.result (kind_at)
    (sym c.is_opi.ensures ∙ c.if-is_opi.true) in
    c.add-then-opi_kept.ensures ∙ rw (kept_is ∙ c.if-opi_kept.true, m, saved_at)

pub returns : goal.returns
returns c =
    let type_at : c.type_or_31-nal_unit_type.result ≡ type_or31 (held c.args.item.now c.args.a) =
    c.type_or_31-nal_unit_type.ensures.0 ∙ ap type_or31 c.part-unit.ensures.holds in
    let kind_at : let a = c.args in c.unit_kind-kind.result ≡ kind_of (held a.item.now a.a) =
    c.unit_kind-kind.ensures ∙ ap unit_kind (type_at) in
    let saved_at : let a = c.args in c.type_saves-saved.result ≡ saved (held a.item.now a.a) =
    c.type_saves-saved.ensures.0 ∙ ap (λ (t : ℕ). one_if_three (code_of_type Short t)) (type_at) in
    let a = c.args in
    let h = keeps_other a.target (held a.item.now a.a) c.unit_kind-kind.result (kind_at)
    (sym c.is_opi.ensures ∙ c.if-is_opi.false) in
    let m = leads (held a.item.now a.a) c.unit_kind-kind.result (kind_at) ∙ sym c.may_lead.ensures in
    c.add-2.ensures ∙ rw (h, m, saved_at)
