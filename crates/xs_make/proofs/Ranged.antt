-- The numbers of a generated scene are in their ranges
use Rattle.std.proofs.Common.{◌≡◌, ℕ, ◌+◌, ◌*◌, ◌≤◌, ◌<◌, Option, Some, None, IfSome, List, [], ◌∷◌, All, length, map, get_or, sym, subst, ◌∙◌, arith}
use Rattle.std.specs.List.{range_with_len}
use Rattle.std.proofs.lemmas.Int.{ints}
use Rattle.std.proofs.lemmas.List.Elements.{All-cons, All-map, All-nil}
use Rattle.std.proofs.lemmas.List.FromFn.{get_or-range_with_len, length-range_with_len}
use Rattle.xs_base.specs.declared.limits.TheConstants.{MOST_GENERATED_ROWS}
use Rattle.xs_pixel.specs.declared.style.Style.{Style}
use Rattle.xs_scene.specs.InRange.{ColoursInRange, ColumnInRange, HasCardInRange, IsInRange, IsStyle, LevelInRange, PegInRange, SheetInRange, StyleKeyInRange}
use Rattle.xs_scene.specs.Names.{IsName}
use Rattle.xs_scene.specs.Ranges.{IsExposure, IsNode, IsOffset, IsPegKey, IsRef, IsReference}
use Rattle.xs_scene.specs.Records.{ColoursRecord, ColumnRecord, ExposureRecord, LevelRecord, PegRecord, SheetRecord}
use Rattle.xs_scene.specs.declared.column.Shown.TheVariants.{Drawing as Shows}
use Rattle.xs_scene.specs.declared.node.Ref.{Ref}
use Rattle.xs_scene.specs.declared.node.Ref.TheVariants as target
use Rattle.xs_make.specs.Draws.{drawn, state_after}
use Rattle.xs_make.specs.Files.{background_name, cel_name}
use Rattle.xs_make.specs.Scenes.{around, background_level, cel_level, clear_style, column_from, exposure_from, exposures_of, held_column, key_from, keys_of, made_levels, made_node, made_out, palette_from, peg_from, scene_from, sheet_from, sheet_state, style_from}
use Rattle.xs_make.proofs.Drawn.{drawn_below}
use Rattle.xs_make.proofs.Names.{background_has_a_name, cels_have_names}
use Rattle.xs_make.proofs.Plain.{each, generated_is_plain}

-- what is so of each of some numbers in a row is so of all that is made of them
all_of : {A : Type 0} (P : A → Type 0) (f : ℕ → A) (a n : ℕ) → ((k : ℕ) → a ≤ k → k < a + n → P (f k)) → All P (map f (range_with_len a n))
all_of P f a n holds =
    All-map P f (range_with_len a n)
    (λ k d less.
    let few : k < n = subst (λ (m : ℕ). k < m) (length-range_with_len a n) less in
    subst (λ (y : ℕ). P (f y)) (sym (get_or-range_with_len a n k d few)) (holds (a + k) (omega arith) (omega (arith, few))))

style_in_range : (x k : ℕ) → IsStyle (style_from x k)
style_in_range x k =
    let r = drawn_below x (3 * k) 256 (omega arith) in
    let g = drawn_below x (3 * k + 1) 256 (omega arith) in
    let b = drawn_below x (3 * k + 2) 256 (omega arith) in
    record { r = omega (arith, r); g = omega (arith, g); b = omega (arith, b); a = omega arith }

palette_in_range : (x : ℕ) → ColoursInRange (palette_from x)
palette_in_range x = record {
  styles =
      All-cons IsStyle clear_style (map (style_from x) (range_with_len 0 7))
      (record { r = omega arith; g = omega arith; b = omega arith; a = omega arith })
      (all_of IsStyle (style_from x) 0 7 (λ k least less. style_in_range x k));
  keys = All-nil StyleKeyInRange;
}

level_in_range : (l : ℕ) → l < 3 → LevelInRange (cel_level l)
level_in_range l few = record {
  kind = omega arith;
  drawings = all_of IsName cel_name (4 * l) 4 (λ k least less. cels_have_names k (omega (arith, few, less)));
}

levels_in_range : All LevelInRange made_levels
levels_in_range =
    All-cons LevelInRange background_level (map cel_level (range_with_len 0 3))
    (record { kind = tt; drawings = each IsName background_name background_has_a_name })
    (all_of LevelInRange cel_level 0 3 (λ l least less. level_in_range l (omega (arith, less))))

key_in_range : (x rows n : ℕ) → rows ≤ MOST_GENERATED_ROWS → n < keys_of rows → IsPegKey (key_from x n)
key_in_range x rows n most few =
    let right = drawn_below x (2 * n) 33 (omega arith) in
    let up = drawn_below x (2 * n + 1) 17 (omega arith) in
    record {
      row = (omega arith, omega (arith, most, few));
      x = (omega (arith, ints, right), omega (arith, ints, right));
      y = (omega (arith, ints, up), omega (arith, ints, up));
    }

peg_in_range : (x rows : ℕ) → rows ≤ MOST_GENERATED_ROWS → PegInRange (peg_from x (keys_of rows))
peg_in_range x rows most = record {
  parent = tt;
  keys = all_of IsPegKey (key_from x) 0 (keys_of rows) (λ n least less. key_in_range x rows n most (omega (arith, less)));
}

exposure_in_range : (x rows level j : ℕ) → rows ≤ MOST_GENERATED_ROWS → level ≤ 3 → j < exposures_of rows → IsExposure (exposure_from x rows level j)
exposure_in_range x rows level j most known few =
    let index = drawn_below x j 4 (omega arith) in
    record {
      from = (omega arith, omega (arith, most, few));
      to = (omega (arith, most, few), omega (arith, most, few));
      rows = omega (arith, most, few);
      shown = (omega (arith, known), omega (arith, index));
    }

column_in_range : (x rows level : ℕ) (peg : Option ℕ) → rows ≤ MOST_GENERATED_ROWS → level ≤ 3 → IfSome peg IsReference
    → ColumnInRange (column_from x rows level peg)
column_in_range x rows level peg most known placed = record {
  peg = placed;
  cells = all_of IsExposure (exposure_from x rows level) 0 (exposures_of rows) (λ j least less. exposure_in_range x rows level j most known (omega (arith, less)));
}

background_in_range : (rows : ℕ) → 1 ≤ rows → rows ≤ MOST_GENERATED_ROWS → ColumnInRange (held_column rows)
background_in_range rows least most =
    let cell : ExposureRecord = record { from = 1; to = rows; shown = Shows 0 0 } in
    record {
      peg = tt;
      cells =
          each IsExposure cell
          (record { from = (omega arith, omega arith); to = (least, omega (arith, most)); rows = least; shown = (omega arith, omega arith) });
    }

out_in_range : All IsRef made_out
out_in_range =
    let node : Ref = target.Node 0 in
    let third : Ref = target.Column 3 in
    let first : Ref = target.Column 1 in
    All-cons IsRef (target.Column 0) (first ∷ node ∷ third ∷ []) (omega arith)
    (All-cons IsRef first (node ∷ third ∷ []) (omega arith) (All-cons IsRef node (third ∷ []) (omega arith) (each IsRef third (omega arith))))

sheet_in_range : (x rows : ℕ) → 1 ≤ rows → rows ≤ MOST_GENERATED_ROWS → SheetInRange (sheet_from x rows)
sheet_in_range x rows least most =
    let y = state_after x (2 * keys_of rows) in
    let n = exposures_of rows in
    let first : ColumnRecord = column_from y rows 1 None in
    let second : ColumnRecord = column_from (state_after y n) rows 2 (Some 0) in
    let third : ColumnRecord = column_from (state_after y (2 * n)) rows 3 None in
    record {
      pegs = each PegInRange (peg_from x (keys_of rows)) (peg_in_range x rows most);
      columns =
          All-cons ColumnInRange (held_column rows) (first ∷ second ∷ third ∷ []) (background_in_range rows least most)
          (All-cons ColumnInRange first (second ∷ third ∷ []) (column_in_range y rows 1 None most (omega arith) tt)
          (All-cons ColumnInRange second (third ∷ []) (column_in_range (state_after y n) rows 2 (Some 0) most (omega arith) (omega arith))
          (each ColumnInRange third (column_in_range (state_after y (2 * n)) rows 3 None most (omega arith) tt))));
      numbers = record { are_nodes = each IsNode made_node (omega arith, omega arith); are_refs = out_in_range };
      cards = each HasCardInRange made_node tt;
    }

pub in_range : (seed rows : ℕ) → 1 ≤ rows → rows ≤ MOST_GENERATED_ROWS → IsInRange (scene_from seed rows)
in_range seed rows least most = record {
  format = record { least = omega arith; most = omega arith; plain = λ _. generated_is_plain seed (sheet_state seed) rows };
  camera = record { w = (omega arith, omega arith); h = (omega arith, omega arith); peg = tt };
  palettes = each ColoursInRange (palette_from seed) (palette_in_range seed);
  levels = levels_in_range;
  sheets = each SheetInRange (sheet_from (sheet_state seed) rows) (sheet_in_range (sheet_state seed) rows least most);
}
