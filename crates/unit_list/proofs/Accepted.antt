-- What holds of a list that decodes: its version, how long it is, and that its units lie in it.
use Prim.Native.Nat.{ℕ, ◌+◌, ◌*◌, ◌^◌, ◌≤◌}
use mathlib.Core.Path.{◌≡◌, refl, sym, ◌∙◌}
use mathlib.Core.List.{List, [], ◌∷◌}
use mathlib.Core.Logic.{◌⊎◌}
use native.Mathlib.Omega.{arith}
use native.Mathlib.Decide.{dec_le, ℕ_discrete}
use lib.ListN.{length, get_or}
use Rattle.parse.specs.Outcome.{accept, refuse}
use Rattle.parse.specs.Parse.{Parsed, value, refused, many, outcome_or}
use Rattle.boxes.specs.Parts.{nowhere}
use Rattle.boxes.specs.declared.Span.{Span}
use Rattle.boxes.proofs.Spans.{span_lengths}
use Rattle.unit_list.specs.UnitList.{Array, array, length_width, decode, units_of, held_arrays}
use Rattle.unit_list.proofs.Arrays.{Sound, sound_none, sound_more, room, arrays_lie, arrays_sound}
use Rattle.unit_list.proofs.Left.{version_known, width_small, decode_too_long, decode_versionless, decode_arrays}

room_lengths : (w : ℕ) → 2 ≤ w → (us : List Span) → 2 * length us + span_lengths us ≤ room w us
unfolding room
room_lengths w h [] = omega arith
room_lengths w h (a ∷ us) = let e = room_lengths w h us in omega arith

pub sound_held : (s : List ℕ) {xs : List (Array Span)} → Sound xs → Sound (held_arrays s xs)
sound_held s sound_none = sound_none
sound_held s (sound_more one bit small h) = sound_more one bit small (sound_held s h)

-- what an accepted list says: its length, its version and how many bytes its lengths have, its arrays and where its units lie, each and all together
pub record Accepted (s : List ℕ) (xs : List (Array Span)) : Type 0 where
  pub lent : length s ≤ 2 ^ 30
  pub some : 1 ≤ length s
  pub version : (get_or s 0 0 ≡ 1) ⊎ (get_or s 0 0 ≡ 2)
  pub width : (2 ≤ length_width (get_or s 0 0)) × (length_width (get_or s 0 0) ≤ 4)
  pub last : ℕ
  pub read : many (array (length_width (get_or s 0 0))) s 1 ≡ value xs last
  pub sound : Sound xs
  pub each : (k : ℕ) → (get_or (units_of xs) k nowhere).start + (get_or (units_of xs) k nowhere).len ≤ length s
  pub together : 1 + (2 * length (units_of xs) + span_lengths (units_of xs)) ≤ length s

pub accepted : (s : List ℕ) (xs : List (Array Span)) → decode s ≡ accept xs → Accepted s xs
accepted s xs e =
    elim (dec_le (length s) (2 ^ 30)) [
      | no h ↦ absurd (refuses 23 (decode_too_long s (omega arith)) e)
      | yes h ↦
          elim (ℕ_discrete (length_width (get_or s 0 0)) 0) [
            | yes v ↦ absurd (refuses 21 (decode_versionless s h v) e)
            | no v ↦ go s h v (many (array (length_width (get_or s 0 0))) s 1) refl (sym (decode_arrays s h (length_width (get_or s 0 0)) refl v) ∙ e)
          ]
    ]
  where
    refuses : (n : ℕ) → decode s ≡ refuse n → decode s ≡ accept xs → ⊥
    refuses n f g = let z : ◌≡◌ {A = ℕ} 0 1 = cc in omega arith

    go : (s : List ℕ) → length s ≤ 2 ^ 30 → (length_width (get_or s 0 0) ≡ 0 → ⊥) → (o : Parsed (List (Array Span)))
        → many (array (length_width (get_or s 0 0))) s 1 ≡ o → outcome_or 21 o ≡ accept xs → Accepted s xs
    go [] h v o m f = absurd (v refl)
    go (b ∷ s) h v (refused n) m f = absurd (let z : ◌≡◌ {A = ℕ} 0 1 = cc in omega arith)
    go (b ∷ s) h v (value ys r) m f =
        let y : ys ≡ xs = cc in
        let w = width_small b v in
        let l = arrays_lie (length_width b) (b ∷ s) (omega (arith, w.0)) 1 (omega arith) ys r m in
        let t = l.together in
        let c = room_lengths (length_width b) w.0 (units_of ys) in
        rw (← y)
        (record {
          lent = h;
          some = omega arith;
          version = version_known b v;
          width = w;
          last = r;
          read = m;
          sound = arrays_sound (length_width b) (b ∷ s) (omega (arith, w.0)) 1 ys r m;
          each = l.each;
          together = omega arith;
        })
