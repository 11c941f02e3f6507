-- The length of an assembled stream, by the units of the list and the length of the item.
use Prim.Native.Nat.{ℕ, ◌+◌, ◌*◌, ◌^◌, ◌≤◌}
use mathlib.Core.Path.{◌≡◌, refl, sym, ap, ◌∙◌}
use mathlib.Core.Bool.{Bool, true, false}
use mathlib.Core.List.{List, [], ◌∷◌, ◌++◌, map, map-append}
use native.Mathlib.Omega.{arith}
use lib.ListN.{length, drop, length-append, length-take}
use Rattle.std.specs.Prelude.{if◌then◌else◌, Option}
use Rattle.parse.specs.Outcome.{Outcome, accept, refuse, and_then}
use Rattle.parse.specs.Parse.{Parsed, value, refused, many, outcome}
use Rattle.boxes.specs.Parts.{held}
use Rattle.boxes.specs.declared.Span.{Span}
use Rattle.unit_list.specs.UnitList.{Array, decode, units_of, encode}
use Rattle.unit_list.specs.Answers.{list_units}
use Rattle.unit_list.proofs.Arrays.{Sound, room, run_value}
use Rattle.unit_list.proofs.Encode.{units_encode}
use Rattle.unit_list.proofs.Accepted.{accepted}
use Rattle.split.specs.Item.{item_unit}
use Rattle.annex_b.specs.Stream.{StartCode, annex_b}
use Rattle.split.specs.inner.Walk.{item_units_from}
use Rattle.split.proofs.Items.{unit_read_lem, unit_advances}
use Rattle.full.specs.declared.VvcConfig.{VvcConfig}
use Rattle.access_unit.specs.AccessUnit.{target_of, keeps, leading, following, kept, code_of, assemble}
use Rattle.access_unit.specs.inner.Gathered.{kept_left, Gathered, gather, gathered_units, lengths}
use Rattle.access_unit_sizes.specs.inner.Sizes.{sizes_of}
use Rattle.access_unit.specs.declared.StartCodes.{StartCodes}
use Rattle.access_unit.proofs.Streams.{lengths_append}
use Rattle.access_unit.proofs.Streams.{stream_most}
use Rattle.access_unit.proofs.KeptUnits.{leads_and_follows}
use Rattle.access_unit_sizes.proofs.Gathering.{gathered}
use Rattle.access_unit.proofs.Order.{units_parts}
use Rattle.access_unit_sizes.proofs.Answering.{assemble_unknown, assemble_known}
use Rattle.expand.proofs.Accepted.{then_accept}

-- the bytes of units after start codes of four bytes, which are the most that their stream has
abbrev pub streamed : List (List ℕ) → ℕ
streamed us = 4 * length us + lengths us

streamed_append : (us vs : List (List ℕ)) → streamed (us ++ vs) ≡ streamed us + streamed vs
streamed_append us vs = omega (arith, length-append us vs, lengths_append us vs)

-- the stream of units and one more
pub stream_more : (code : ℕ → List ℕ → StartCode) (us : List (List ℕ)) (u : List ℕ)
    → length (annex_b code (us ++ (u ∷ []))) ≤ streamed us + (4 + length u)
unfolding lengths
stream_more code us u = omega (arith, stream_most code (us ++ (u ∷ [])), streamed_append us (u ∷ []))

-- units that lie in s
pub held_room : (s : List ℕ) (us : List Span) → streamed (map (held s) us) ≤ room 4 us
unfolding room lengths
held_room s [] = omega arith
held_room s (a ∷ us) = omega (arith, held_room s us, length-take a.len (drop a.start s))

-- ### the list's units

-- a list whose units read has at most 2^30 bytes
list_lent : (list : List ℕ) (us : List Span) → list_units list ≡ accept us → length list ≤ 2 ^ 30
list_lent list us e = let x = then_accept (decode list) (λ xs. accept (units_of xs)) us e in (accepted list x.0 x.1).lent

-- the units of an encoded list are those of its arrays
pub encoded_units : (xs : List (Array (List ℕ))) → Sound xs → (us : List Span) → list_units (encode xs) ≡ accept us
    → map (held (encode xs)) us ≡ units_of xs
encoded_units xs sound us e =
    let u = units_encode xs (list_lent (encode xs) us e) sound in
    let y : accept us ≡ accept u.spans = sym e ∙ u.read in
    let z : us ≡ u.spans = cc in
    ap (map (held (encode xs))) z ∙ u.bytes

-- ### the item's units

kept_room : (item : List ℕ) (target : Option ℕ) (xs : List Span) → room 4 (kept item target xs) ≤ room 4 xs
unfolding kept room
kept_room item target [] = omega arith
kept_room item target (a ∷ xs) = go (keeps target (held item a)) (kept_room item target xs)
  where
    go : (b : Bool) → room 4 (kept item target xs) ≤ room 4 xs
        → room 4 (if b then a ∷ kept item target xs else kept item target xs) ≤ 4 + a.len + room 4 xs
    go true h = omega arith
    go false h = omega arith

module _ (size : ℕ) (item : List ℕ) (some : 1 ≤ size) where
  -- a unit has at least one byte and a prefix of at least one: five bytes of the stream for two of the item; with a prefix of four, as many
  record ItemFits (p : ℕ) (xs : List Span) : Type 0 where
    most : 5 * p + 2 * room 4 xs ≤ 5 * length item
    same : size ≡ 4 → p + room 4 xs ≤ length item

  units_fit_lem : (p : ℕ) (xs : List Span) (r : ℕ) → many (item_unit size) item p ≡ value xs r → p ≤ length item → ItemFits p xs
  unfolding room
  units_fit_lem =
      run_value (item_unit size) item (unit_advances size item) (λ p xs r. p ≤ length item → ItemFits p xs)
      (λ p g h. record { most = omega arith; same = λ e. omega arith })
      (λ p a q xs r x m h.
      let u = unit_read_lem size item p a q x in
      let f = m u.fits in
      record {
        most = omega (arith, f.most, u.start, u.some, u.next);
        same = λ e. let g = f.same e in omega (arith, u.start, u.next);
      })

  kept_fit : (target : Option ℕ) (ks : List Span) → kept_left size target item 0 ≡ accept ks → ItemFits 0 ks
  unfolding kept_left item_units_from
  kept_fit target ks e = go (many (item_unit size) item 0) refl e
    where
      go : (x : Parsed (List Span)) → many (item_unit size) item 0 ≡ x
          → and_then (outcome x) (λ xs. accept (kept item target xs)) ≡ accept ks → ItemFits 0 ks
      go (refused n) w f = let z : ◌≡◌ {A = ℕ} 0 1 = cc in absurd (omega arith)
      go (value xs r) w f =
          let y : kept item target xs ≡ ks = cc in
          let u = units_fit_lem 0 xs r w (omega arith) in
          let k = kept_room item target xs in
          rw (← y) (record { most = omega (arith, u.most); same = λ e. let g = u.same e in omega arith })

-- ### the stream

-- the units of the list and of the item, in order
streamed_parts : (list item : List ℕ) (g : Gathered)
    → streamed (gathered_units list item g) ≡ streamed (map (held list) g.units) + streamed (map (held item) g.kept)
streamed_parts list item g =
    let a = map (held item) (leading item g.kept) in
    let b = map (held list) g.units in
    let c = map (held item) (following item g.kept) in
    let k : map (held item) g.kept ≡ a ++ c =
    ap (map (held item)) (sym (leads_and_follows item g.kept)) ∙ map-append (held item) (leading item g.kept) (following item g.kept) in
    omega (arith, ap streamed (units_parts list item g), streamed_append a (b ++ c), streamed_append b c, ap streamed k, streamed_append a c)

module _ (codes : StartCodes) (h : VvcConfig) (list item : List ℕ) (tols : Option ℕ) (b : List ℕ) where
  pub record Parts : Type 0 where
    pub units : List Span
    pub listed : list_units list ≡ accept units
    pub most : 2 * length b ≤ 2 * streamed (map (held list) units) + 5 * length item
    pub same : h.length_size ≡ 4 → length b ≤ streamed (map (held list) units) + length item

  pub assembled_parts : assemble codes h list item tols ≡ accept b → Parts
  assembled_parts e = go (gather h.length_size (target_of h tols) list item) refl
    where
      go : (o : Outcome Gathered) → gather h.length_size (target_of h tols) list item ≡ o → Parts
      go (refuse n) f =
          let x = sym (assemble_unknown codes h list item tols (target_of h tols) refl n f) ∙ e in
          let z : ◌≡◌ {A = ℕ} 0 1 = cc in
          absurd (omega arith)
      go (accept g) f =
          let a = assemble_known codes h list item tols (target_of h tols) refl (sizes_of codes list item g)
          (record { parts = g; found = f; sized = refl }) in
          let x : accept b ≡ accept a.bytes = sym e ∙ a.given in
          let y : b ≡ a.bytes = cc in
          let l : length b ≤ streamed (gathered_units list item g) =
          omega (arith, ap length y, a.long, stream_most (code_of codes) (gathered_units list item g)) in
          let p = streamed_parts list item g in
          let k = gathered h.length_size (target_of h tols) list item g f in
          let i = kept_fit h.length_size item k.some (target_of h tols) g.kept k.found in
          let r = held_room item g.kept in
          record {
            units = g.units;
            listed = k.listed;
            most = omega (arith, l, p, r, i.most);
            same = λ s. let t = i.same s in omega (arith, l, p, r);
          }
