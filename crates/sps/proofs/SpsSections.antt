-- The SPS's sections make up its head.
use mathlib.Core.Path.{◌≡◌, refl}
use mathlib.Core.List.{List}
use Prim.Native.Nat.{ℕ}
use lib.Dec.{ltb}
use Rattle.std.specs.Prelude.{if◌then◌else◌}
use Rattle.parse.specs.Parse.{value, bind, give, refuse_if}
use Rattle.parse.proofs.Binds.{same_first, into_section}
use Rattle.bit_reader.specs.Bits.{u, is_set, ue}
use Rattle.sps.specs.Sps.{sps_head}
use Rattle.sps.specs.inner.Sections.{ids, ptl_where, size, window_where, depth, sps_head_of}

pub sps_sections : (s : List ℕ) (p : ℕ) → sps_head s p ≡ bind (ids s p) (λ i q₁.
    bind (ptl_where i.ptl_present_flag i.max_sublayers_minus1 s q₁) (λ l q₂.
    bind (size s q₂) (λ z q₃.
    bind (window_where z.conformance_window_flag s q₃) (λ w q₄.
    bind (depth s q₄) (λ d q₅. value (sps_head_of i l z w d) q₅)))))
unfolding sps_head ids size depth
sps_sections s p =
    into_section (u 4 s p) _ _ _ (λ id p₁. into_section (u 4 s p₁) _ _ _ (λ vps p₂. into_section (u 3 s p₂) _ _ _ (λ m p₃.
    into_section (u 2 s p₃) _ _ _ (λ chroma p₄. into_section (u 2 s p₄) _ _ _ (λ ctu p₅. into_section (u 1 s p₅) _ _ _ (λ has_ptl p₆.
    same_first (ptl_where (is_set has_ptl) m s p₆) _ _ (λ l p₇.
    into_section (u 1 s p₇) _ _ _ (λ gdr p₈. into_section (u 1 s p₈) _ _ _ (λ resampling p₉.
    into_section ((if is_set resampling then u 1 else give 0) s p₉) _ _ _ (λ change q₀.
    into_section (ue s q₀) _ _ _ (λ width q₁. into_section (ue s q₁) _ _ _ (λ height q₂. into_section (u 1 s q₂) _ _ _ (λ has_window q₃.
    same_first (window_where (is_set has_window) s q₃) _ _ (λ w q₄.
    into_section (u 1 s q₄) _ _ _ (λ subpictures q₅. into_section (refuse_if (is_set subpictures) 13 s q₅) _ _ _ (λ _ q₆.
    into_section (ue s q₆) _ _ _ (λ d q₇. into_section (refuse_if (ltb 8 d) 14 s q₇) _ _ _ (λ _ q₈. refl))))))))))))))))))
