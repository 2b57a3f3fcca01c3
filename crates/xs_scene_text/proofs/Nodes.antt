-- What is written for a node, a sheet or a scene is read as that.
use Rattle.std.proofs.Common.{◌≡◌, ℕ, ◌<◌, ◌≤◌, ◌^◌, List, [], ◌∷◌, Bool, true, false, Option, Some, None, Ok, refl, arith}
use Rattle.std.specs.Prelude.{IfSome, All}
use Rattle.xs_pixel.specs.declared.style.Style.{Style}
use Rattle.xs_pixel.specs.declared.operation.Op.{Op}
use Rattle.xs_pixel.specs.declared.operation.Op.TheVariants as op
use Rattle.xs_scene.specs.Records.{PegRecord, ColumnRecord, SheetRecord, SceneRecord}
use Rattle.xs_scene.specs.Ranges.{IsRow, IsRef, IsFiltered, IsNode, IsOldNode, HasNoLines, HasOldNodes, IsPlain}
use Rattle.xs_scene.specs.InRange.{HasCardInRange, SheetInRange, IsInRange}
use Rattle.xs_scene.specs.declared.node.Ref.{Ref}
use Rattle.xs_scene.specs.declared.node.Ref.TheVariants as target
use Rattle.xs_scene.specs.declared.node.Node.{Node}
use Rattle.xs_scene.specs.declared.node.Node.TheVariants as node
use Rattle.xs_scene_text.specs.Fields.{number_at, row_at, list_of}
use Rattle.xs_scene_text.specs.SceneText.{is_newer, style_at, palette_at, level_at, peg_at, column_at, node_number_at, column_number_at, ref_at, pair_at, card_at, shuffle_at, blur_at, filter_at, keep_at, delete_at, node_at, sheet_at, scene_at}
use Rattle.xs_scene_text.specs.SceneData.{IsReadAgain, number_data, list_data, style_data, palette_data, level_data, peg_data, column_data, ref_data, node_data, sheet_data, scene_data}
use Rattle.xs_scene_text.proofs.Again.{list_again}
use Rattle.xs_scene_text.proofs.Objects.{number_again, reference_again, camera_again, style_again, palette_again, level_again, peg_again, column_again}

ref_again : (target : Ref) → IsRef target → IsReadAgain ref_at ref_data target
unfolding ref_at node_number_at column_number_at
ref_again (target.Column column) is at = rw (reference_again column _ is) refl
ref_again (target.Node index) is at = rw (reference_again index _ is) refl

numbers_again : (least most : ℕ) (numbers : List ℕ) → most < 2 ^ 63 → All (λ n. (least ≤ n) × (n ≤ most)) numbers
    → IsReadAgain (list_of (number_at least most)) (list_data number_data) numbers
numbers_again least most numbers fits within =
    list_again (number_at least most) number_data numbers
    (λ k d lt at. let is : _ = within k d lt in number_again least most _ at is.0 is.1 (omega (arith, is.1)))

rows_again : (rows : List ℕ) → All IsRow rows → IsReadAgain (list_of row_at) (list_data number_data) rows
rows_again rows are = numbers_again 1 9999 rows (omega arith) are

styles_again : (styles : List ℕ) → All IsFiltered styles → IsReadAgain (list_of (number_at 0 4095)) (list_data number_data) styles
styles_again styles are = numbers_again 0 4095 styles (omega arith) (λ k d lt. (omega arith, omega (arith, are k d lt)))

newer_since : (b : Bool) → (b ≡ false → ⊥) → b ≡ true
newer_since true other = refl
newer_since false other = absurd (other refl)

pair_again : (format : ℕ) (op : Op) (first second : Ref) → IsRef first → IsRef second → IsReadAgain (node_at format) node_data (node.Pair op first second)
unfolding node_at pair_at
pair_again format op.Over first second is_first is_second at = rw (ref_again first is_first _, ref_again second is_second _) refl
pair_again format op.Add first second is_first is_second at = rw (ref_again first is_first _, ref_again second is_second _) refl
pair_again format op.Sub first second is_first is_second at = rw (ref_again first is_first _, ref_again second is_second _) refl
pair_again format op.Mult first second is_first is_second at = rw (ref_again first is_first _, ref_again second is_second _) refl
pair_again format op.Min first second is_first is_second at = rw (ref_again first is_first _, ref_again second is_second _) refl
pair_again format op.Max first second is_first is_second at = rw (ref_again first is_first _, ref_again second is_second _) refl
pair_again format op.MatteIn first second is_first is_second at = rw (ref_again first is_first _, ref_again second is_second _) refl
pair_again format op.MatteOut first second is_first is_second at = rw (ref_again first is_first _, ref_again second is_second _) refl

card_again : (format : ℕ) (style : Style) → IsReadAgain style_at style_data style → IsReadAgain (node_at format) node_data (node.Card style)
unfolding node_at card_at
card_again format style again at = rw (again _) refl

shuffle_again : (format : ℕ) (input : Ref) (rows : List ℕ) → IsRef input → All IsRow rows → IsReadAgain (node_at format) node_data (node.Shuffle input rows)
unfolding node_at shuffle_at
shuffle_again format input rows is are at = rw (ref_again input is _, rows_again rows are _) refl

blur_again :
    (format : ℕ) (input : Ref) (radius : ℕ) → (is_newer format ≡ false → ⊥) → IsRef input → 1 ≤ radius
    → radius ≤ 16 → IsReadAgain (node_at format) node_data (node.Blur input radius)
unfolding node_at blur_at
blur_again format input radius known is least most at =
    rw (newer_since (is_newer format) known, ref_again input is _, number_again 1 16 radius _ least most (omega arith)) refl

keep_again :
    (format : ℕ) (input : Ref) (styles : List ℕ) → (is_newer format ≡ false → ⊥) → IsRef input
    → All IsFiltered styles → IsReadAgain (node_at format) node_data (node.Keep input styles)
unfolding node_at keep_at filter_at
keep_again format input styles known is are at =
    rw (newer_since (is_newer format) known, ref_again input is _, styles_again styles are _) refl

delete_again :
    (format : ℕ) (input : Ref) (styles : List ℕ) → (is_newer format ≡ false → ⊥) → IsRef input
    → All IsFiltered styles → IsReadAgain (node_at format) node_data (node.Delete input styles)
unfolding node_at delete_at filter_at
delete_again format input styles known is are at =
    rw (newer_since (is_newer format) known, ref_again input is _, styles_again styles are _) refl

node_again :
    (format : ℕ) (node : Node) → IsNode node → HasCardInRange node
    → (is_newer format ≡ false → IsOldNode node) → IsReadAgain (node_at format) node_data node
node_again format (node.Pair op first second) is card known = pair_again format op first second is.0 is.1
node_again format (node.Card style) is card known = card_again format style (style_again style card)
node_again format (node.Shuffle input rows) is card known = shuffle_again format input rows is.0 is.1
node_again format (node.Blur input radius) is card known = blur_again format input radius known is.0 is.1 is.2
node_again format (node.Keep input styles) is card known = keep_again format input styles known is.0 is.1
node_again format (node.Delete input styles) is card known = delete_again format input styles known is.0 is.1

-- ---- sheets and the scene

sheet_fields_again : (format : ℕ) (pegs : List PegRecord) (columns : List ColumnRecord) (nodes : List Node) (out : Option (List Ref)) (at : List ℕ)
    → IsReadAgain (list_of (peg_at format)) (list_data peg_data) pegs → IsReadAgain (list_of column_at) (list_data column_data) columns
    → IsReadAgain (list_of (node_at format)) (list_data node_data) nodes → IfSome out (IsReadAgain (list_of ref_at) (list_data ref_data))
    → let sheet : SheetRecord = record { pegs = pegs; columns = columns; nodes = nodes; out = out } in
    sheet_at format at (sheet_data sheet) ≡ Ok sheet
unfolding sheet_at sheet_data
sheet_fields_again format [] columns [] None at p c n o = rw (c _) refl
sheet_fields_again format [] columns [] (Some out) at p c n o = rw (c _, o _) refl
sheet_fields_again format [] columns (node ∷ nodes) None at p c n o = rw (c _, n _) refl
sheet_fields_again format [] columns (node ∷ nodes) (Some out) at p c n o = rw (c _, n _, o _) refl
sheet_fields_again format (peg ∷ pegs) columns [] None at p c n o = rw (p _, c _) refl
sheet_fields_again format (peg ∷ pegs) columns [] (Some out) at p c n o = rw (p _, c _, o _) refl
sheet_fields_again format (peg ∷ pegs) columns (node ∷ nodes) None at p c n o = rw (p _, c _, n _) refl
sheet_fields_again format (peg ∷ pegs) columns (node ∷ nodes) (Some out) at p c n o = rw (p _, c _, n _, o _) refl

out_again : (out : Option (List Ref)) → IfSome out (All IsRef) → IfSome out (IsReadAgain (list_of ref_at) (list_data ref_data))
out_again None are = tt
out_again (Some refs) are = list_again ref_at ref_data refs (λ k d lt. ref_again _ (are k d lt))

sheet_again :
    (format : ℕ) (sheet : SheetRecord) → SheetInRange sheet → (is_newer format ≡ false → HasNoLines sheet)
    → (is_newer format ≡ false → HasOldNodes sheet)
    → IsReadAgain (sheet_at format) sheet_data sheet
unfolding HasNoLines HasOldNodes
sheet_again format sheet is no_lines old_nodes at =
    sheet_fields_again format sheet.pegs sheet.columns sheet.nodes sheet.out at
    (list_again (peg_at format) peg_data sheet.pegs (λ k d lt. peg_again format _ (is.pegs k d lt) (λ older. no_lines older k d lt)))
    (list_again column_at column_data sheet.columns (λ k d lt. column_again _ (is.columns k d lt)))
    (list_again (node_at format) node_data sheet.nodes
    (λ k d lt. node_again format _ (is.numbers.are_nodes k d lt) (is.cards k d lt) (λ older. old_nodes older k d lt)))
    (out_again sheet.out is.numbers.are_refs)

one_if_older : (format : ℕ) → 1 ≤ format → format ≤ 2 → is_newer format ≡ false → format ≡ 1
one_if_older format least most older = grind arith

pub scene_again : (s : SceneRecord) → IsInRange s → IsReadAgain scene_at scene_data s
unfolding scene_at scene_data
scene_again s is at =
    let format = s.format in
    let plain : is_newer format ≡ false → IsPlain s.palettes s.sheets =
    λ older. is.format.plain (one_if_older format is.format.least is.format.most older) in
    rw (
      number_again 1 2 format _ is.format.least is.format.most (omega (arith, is.format.most)),
      camera_again s.camera is.camera _,
      list_again (palette_at format) palette_data s.palettes (λ k d lt. palette_again format _ (is.palettes k d lt) (λ older. (plain older).no_keys k d lt)) _,
      list_again level_at level_data s.levels (λ k d lt. level_again _ (is.levels k d lt)) _,
      list_again (sheet_at format) sheet_data s.sheets
          (λ k d lt. sheet_again format _ (is.sheets k d lt) (λ older. (plain older).no_lines k d lt) (λ older. (plain older).old_nodes k d lt))
          _,
    )
    refl
