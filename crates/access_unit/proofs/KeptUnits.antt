-- Laws of the kept units of an item: which of them lead, and the walk over them.
use Prim.Native.Nat.{ℕ, suc, ◌≤◌}
use mathlib.Core.Path.{◌≡◌, refl, sym, ap, ◌∙◌}
use mathlib.Core.Bool.{Bool, true, false, ◌||◌}
use mathlib.Core.List.{List, [], ◌∷◌, ◌++◌}
use native.Mathlib.Omega.{arith}
use lib.ListN.{length, take, drop}
use lib.Seq.{take-append_seam, drop-append_seam}
use Rattle.std.specs.Prelude.{if◌then◌else◌, Option}
use Rattle.parse.specs.Outcome.{Outcome, accept, refuse, and_then}
use Rattle.parse.specs.inner.Walk.{more}
use Rattle.boxes.specs.Parts.{held}
use Rattle.boxes.specs.declared.Span.{Span}
use Rattle.boxes.proofs.Walk.{total}
use Rattle.nal.specs.Kinds.{kind_of, is_aud}
use Rattle.opi.specs.Opi.{opi_ols_idx}
use Rattle.split.specs.inner.Walk.{item_units_from}
use Rattle.access_unit.specs.AccessUnit.{agrees, is_opi, keeps, may_lead, leading, following, kept}
use Rattle.access_unit.specs.inner.Gathered.{kept_left}

-- a dropped unit is an OPI unit, so it may lead
either : (b c d : Bool) → (if b then c else true) ≡ false → (d || b) ≡ true
either true c true e = refl
either true c false e = refl
either false c d e = absurd (let z : ◌≡◌ {A = ℕ} 0 1 = cc in omega arith)

dropped_leads : (target : Option ℕ) (u : List ℕ) → keeps target u ≡ false → may_lead u ≡ true
unfolding keeps may_lead
dropped_leads target u e = either (is_opi u) (agrees target (opi_ols_idx u)) (is_aud (kind_of u)) e

module _ (item : List ℕ) where
  -- the leading and the remaining units are all units
  pub leads_and_follows : (xs : List Span) → leading item xs ++ following item xs ≡ xs
  unfolding leading following
  leads_and_follows [] = refl
  leads_and_follows (a ∷ xs) = go (leads_and_follows xs) (may_lead (held item a))
    where
      go : leading item xs ++ following item xs ≡ xs
          → (b : Bool) → (if b then a ∷ leading item xs else []) ++ (if b then following item xs else a ∷ xs) ≡ a ∷ xs
      go h true = ap (λ (l : List Span). a ∷ l) h
      go h false = refl

  pub leading_take : (xs : List Span) → take (length (leading item xs)) xs ≡ leading item xs
  leading_take xs = ap (take (length (leading item xs))) (sym (leads_and_follows xs)) ∙ take-append_seam (leading item xs) (following item xs)

  pub following_drop : (xs : List Span) → drop (length (leading item xs)) xs ≡ following item xs
  following_drop xs = ap (drop (length (leading item xs))) (sym (leads_and_follows xs)) ∙ drop-append_seam (leading item xs) (following item xs)

  module _ (target : Option ℕ) where
    -- the kept units among those that lead are those that lead among the kept ones
    pub kept_leading : (xs : List Span) → kept item target (leading item xs) ≡ leading item (kept item target xs)
    unfolding leading kept
    kept_leading [] = refl
    kept_leading (a ∷ xs) = go (kept_leading xs) (keeps target (held item a)) refl (may_lead (held item a)) refl
      where
        go : kept item target (leading item xs) ≡ leading item (kept item target xs) → (k : Bool) → keeps target (held item a) ≡ k
            → (m : Bool) → may_lead (held item a) ≡ m
            → kept item target (if m then a ∷ leading item xs else []) ≡ leading item (if k then a ∷ kept item target xs else kept item target xs)
        go h true e true f = rw (e, f) (ap (λ (l : List Span). a ∷ l) h)
        go h true e false f = rw f
        go h false e true f = rw e h
        go h false e false f = absurd (let g = dropped_leads target (held item a) e in let z : ◌≡◌ {A = ℕ} 0 1 = cc in omega arith)

    pub kept_following : (xs : List Span) → kept item target (following item xs) ≡ following item (kept item target xs)
    unfolding following kept
    kept_following [] = refl
    kept_following (a ∷ xs) = go (kept_following xs) (keeps target (held item a)) refl (may_lead (held item a)) refl
      where
        go : kept item target (following item xs) ≡ following item (kept item target xs) → (k : Bool) → keeps target (held item a) ≡ k
            → (m : Bool) → may_lead (held item a) ≡ m
            → kept item target (if m then following item xs else a ∷ xs) ≡ following item (if k then a ∷ kept item target xs else kept item target xs)
        go h true e true f = rw f h
        go h true e false f = rw (e, f)
        go h false e true f = h
        go h false e false f = absurd (let g = dropped_leads target (held item a) e in let z : ◌≡◌ {A = ℕ} 0 1 = cc in omega arith)

-- ### the walk

module _ (size : ℕ) (target : Option ℕ) (item : List ℕ) where
  module _ (p : ℕ) (a : Span) (q : ℕ) (rest : item_units_from size item p ≡ more a (item_units_from size item q)) where
    over : (b : Bool) → keeps target (held item a) ≡ b
        → kept_left size target item p ≡ (if b then more a (kept_left size target item q) else kept_left size target item q)
    unfolding kept_left kept
    over b e = rw rest (go b e (item_units_from size item q))
      where
        go : (b : Bool) → keeps target (held item a) ≡ b → (o : Outcome (List Span))
            → and_then (more a o) (λ xs. accept (kept item target xs))
            ≡ (if b then more a (and_then o (λ xs. accept (kept item target xs))) else and_then o (λ xs. accept (kept item target xs)))
        go true e (accept xs) = rw e
        go false e (accept xs) = rw e
        go true e (refuse n) = refl
        go false e (refuse n) = refl

    pub over_kept : keeps target (held item a) ≡ true → kept_left size target item p ≡ more a (kept_left size target item q)
    over_kept e = over true e

    pub over_dropped : keeps target (held item a) ≡ false → kept_left size target item p ≡ kept_left size target item q
    over_dropped e = over false e

  -- where no unit is left, or the item is refused, the same holds for the kept units
  pub over_end : (p : ℕ) → item_units_from size item p ≡ accept [] → kept_left size target item p ≡ accept []
  unfolding kept_left kept
  over_end p e = rw e

  pub over_refused : (p n : ℕ) → item_units_from size item p ≡ refuse n → kept_left size target item p ≡ refuse n
  unfolding kept_left kept
  over_refused p n e = rw e

  -- no unit is left, so no kept unit is
  pub over_nothing : (p : ℕ) → total (item_units_from size item p) ≡ 0 → total (kept_left size target item p) ≡ 0
  unfolding kept_left kept
  over_nothing p e = go (item_units_from size item p) e
    where
      go : (o : Outcome (List Span)) → total o ≡ 0 → total (and_then o (λ xs. accept (kept item target xs))) ≡ 0
      go (accept []) e = refl
      go (accept (a ∷ xs)) e = absurd (omega arith)
      go (refuse n) e = refl

pub leading_le : (item : List ℕ) (xs : List Span) → length (leading item xs) ≤ length xs
unfolding leading
leading_le item [] = omega arith
leading_le item (a ∷ xs) = go (may_lead (held item a)) (leading_le item xs)
  where
    go : (b : Bool) → length (leading item xs) ≤ length xs → length (if b then a ∷ leading item xs else []) ≤ suc (length xs)
    go true h = omega arith
    go false h = omega arith
