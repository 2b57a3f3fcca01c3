-- Whatever stands in a scene text: the scene that it says is in range, and its fault has a code that
-- `decode` gives.
use Rattle.std.proofs.Common.{◌≡◌, ◌+◌, ◌≤◌, ◌≤ℤ◌, ℕ, ℤ, Bool, true, false, List, [], ◌∷◌, Option, Some, None, Ok, Err, if◌then◌else◌, is_some, int_lt, pos, negsuc, ◌==◌, ◌&&◌, refl, sym, ap, subst, ◌∙◌, arith}
use Rattle.std.specs.Prelude.{IfSome, All, unsigned_abs, option_and_then, bytes_eq, codes}
use Rattle.std.proofs.lemmas.Bool.Decides.{nat_tests}
use Rattle.std.proofs.lemmas.Int.{ints}
use Rattle.std.proofs.lemmas.List.Elements.{All-nil, All-cons}
use Rattle.serde_json.specs.Data.{Data, Items, no_items, item, Members}
use Rattle.serde_json.specs.Events.{items_len}
use Rattle.serde_json.specs.Find.{as_object, as_array, as_str, as_bool, as_number, as_i64, at as item_at}
use Rattle.xs_fault.specs.declared.code.SceneCode.{SceneCode}
use Rattle.xs_fault.specs.declared.code.SceneCode.TheVariants as code
use Rattle.xs_fault.specs.declared.fault.SceneFault.{SceneFault}
use Rattle.xs_fault.specs.declared.field.Field.{Field}
use Rattle.xs_fault.specs.declared.field.Field.TheVariants as f
use Rattle.xs_fault.specs.Paths.{index_at}
use Rattle.xs_json.specs.Parsing.{Parsed, ◌>>=◌, fault, or_fault}
use Rattle.xs_json.specs.Objects.{has, has_only, has_any, value_of, first_missing, told_missing, none_missing, object_at, whole_at, text_at, flag_at}
use Rattle.xs_fault.specs.Paths.{path_of}
use Rattle.xs_pixel.specs.declared.operation.Op.{Op}
use Rattle.xs_pixel.specs.declared.operation.Op.TheVariants as op
use Rattle.xs_scene.specs.Names.{is_name, IsName}
use Rattle.xs_scene.specs.Ranges.{IsRow, IsReference, IsOffset, IsCamera, IsKind, IsPegKey, IsShown, IsExposure, IsRef, IsFiltered, IsOldNode, HasNoKey, HasNoLine, HasNoLines, HasOldNodes}
use Rattle.xs_scene.specs.InRange.{IsStyle, StyleKeyInRange, ColoursInRange, LevelInRange, PegInRange, ColumnInRange, NodeInRange, SheetInRange, IsInRange}
use Rattle.xs_scene.specs.Records.{ColoursRecord, PegKeyRecord, PegRecord, SheetRecord}
use Rattle.xs_scene.specs.declared.node.Ref.{Ref}
use Rattle.xs_scene.specs.declared.node.Node.{Node}
use Rattle.xs_scene_text.specs.declared.work.Work.{Work}
use Rattle.xs_scene_text.specs.declared.work.Work.TheVariants as work
use Rattle.xs_scene_text.specs.Fields.{field, if_there, optional_field, or_given, field_or, none_of, form_at, each_at, list_of, number_at, row_at, reference_at, offset_at, is_other_number}
use Rattle.xs_scene_text.specs.SceneText.{is_newer, peg_key_fields, scene_fields, is_cm32, work_of, json_of, placements, camera_at, four_at, channel_at, style_at, style_key_at, plain_palette_at, keyed_palette_at, palette_at, name_at, is_cm32_at, kind_of, level_at, moves_only, line_at, peg_key_at, peg_at, shown_sheet_at, shown_drawing_at, shown_at, cell_at, column_at, node_number_at, column_number_at, ref_at, pair_at, card_at, shuffle_at, blur_at, filter_at, keep_at, delete_at, work_at, IsOldWork, node_of, node_at, sheet_at, scene_at, scene_of}
use Rattle.xs_scene_json.specs.Faults.{is_text_code}

-- a reading whose values are as P tells, and whose fault has a code of a text
pub record Reads {A : Type 0} (P : A → Type 0) (reading : Parsed A) : Type 0 where
  pub values : (x : A) → reading ≡ Ok x → P x
  pub faults : (f : SceneFault) → reading ≡ Err f → is_text_code f.code ≡ true

-- nothing is told of a value
abbrev Any : {A : Type 0} → A → Type 0
Any x = Unit {0}

gives : {A : Type 0} (P : A → Type 0) {x : A} → P x → Reads P (Ok x)
gives P {x} holds = record { values = λ y e. let same : x ≡ y = cc in subst P same holds; faults = λ f e. absurd cc }

fails : {A : Type 0} {P : A → Type 0} {code : SceneCode} {at : List ℕ} → is_text_code code ≡ true → Reads P (fault code at)
fails {A} {P} {code} {at} holds =
    record {
      values = λ x e. absurd cc;
      faults = λ f e. let same : f ≡ record { code = code; path = at } = cc in ap (λ g. is_text_code g.code) same ∙ holds;
    }

or_reads : {A : Type 0} (o : Option A) (code : SceneCode) (at : List ℕ) → is_text_code code ≡ true → Reads (λ x. o ≡ Some x) (or_fault o code at)
or_reads (Some x) code at holds = gives (λ y. Some x ≡ Some y) refl
or_reads None code at holds = fails holds

then_reads : {A B : Type 0} {P : A → Type 0} {Q : B → Type 0} {first : Parsed A} {next : A → Parsed B} → Reads P first → ((x : A) → P x → Reads Q (next x)) → Reads Q (first >>= next)
then_reads {first = Ok x} a b = b x (a.values x refl)
then_reads {first = Err e} a b = record { values = λ x is. absurd cc; faults = λ f is. a.faults f (let same : e ≡ f = cc in ap Err same) }

if_reads : {A : Type 0} {P : A → Type 0} (t : Bool) {first second : Parsed A} → (t ≡ true → Reads P first) → (t ≡ false → Reads P second) → Reads P (if t then first else second)
if_reads true a b = a refl
if_reads false a b = b refl

weaker : {A : Type 0} {P : A → Type 0} (Q : A → Type 0) {reading : Parsed A} → ((x : A) → P x → Q x) → Reads P reading → Reads Q reading
weaker Q implies r = record { values = λ x is. implies x (r.values x is); faults = r.faults }

-- ---- objects and values

told_reads : (missing : Option Field) (at : List ℕ) (ms : Members) → Reads Any (told_missing missing at ms)
told_reads None at ms = gives Any tt
told_reads (Some k) at ms = fails refl

missing_reads : (needed : List Field) (at : List ℕ) (ms : Members) → Reads Any (none_missing needed at ms)
missing_reads needed at ms = told_reads (first_missing needed ms) at ms

object_reads : (keys needed : List Field) (at : List ℕ) (d : Data) → Reads Any (object_at keys needed at d)
object_reads keys needed at d =
    then_reads (or_reads (as_object d) code.WrongKind at refl)
    (λ ms _. then_reads (if_reads (has_only keys ms) (λ _. gives Any tt) (λ _. fails {P = Any} refl))
    (λ known _. missing_reads needed at known))

not_below : (a b : ℤ) → int_lt a b ≡ false → b ≤ℤ a
not_below a b is = grind (arith, ints)

whole_reads : (least most : ℤ) (at : List ℕ) (d : Data) → Reads (λ z. (least ≤ℤ z) × (z ≤ℤ most)) (whole_at least most at d)
whole_reads least most at d =
    then_reads (or_reads (option_and_then as_i64 (as_number d)) code.WrongKind at refl)
    (λ z _. if_reads (int_lt z least) (λ _. fails refl)
    (λ above. if_reads (int_lt most z) (λ _. fails refl)
    (λ below. gives (λ y. (least ≤ℤ y) × (y ≤ℤ most)) (not_below z least above, not_below most z below))))

size_within : (least most : ℕ) (z : ℤ) → (pos least ≤ℤ z) × (z ≤ℤ pos most) → (least ≤ unsigned_abs z) × (unsigned_abs z ≤ most)
size_within least most (pos n) within = (omega (arith, ints, within.0), omega (arith, ints, within.1))
size_within least most (negsuc n) within = absurd (omega (arith, ints, within.0))

number_reads : (least most : ℕ) (at : List ℕ) (d : Data) → Reads (λ n. (least ≤ n) × (n ≤ most)) (number_at least most at d)
number_reads least most at d =
    then_reads (whole_reads (pos least) (pos most) at d)
    (λ z within. gives (λ n. (least ≤ n) × (n ≤ most)) (size_within least most z within))

row_reads : (at : List ℕ) (d : Data) → Reads IsRow (row_at at d)
row_reads at d = number_reads 1 9999 at d

reference_reads : (at : List ℕ) (d : Data) → Reads IsReference (reference_at at d)
reference_reads at d = weaker IsReference (λ n within. within.1) (number_reads 0 1000000000 at d)

offset_reads : (at : List ℕ) (d : Data) → Reads IsOffset (offset_at at d)
unfolding offset_at
offset_reads at d =
    then_reads (if_reads (is_other_number d) (λ _. fails {P = Any} refl) (λ _. gives Any tt))
    (λ whole _. whole_reads (negsuc 65535) (pos 65536) at whole)

flag_reads : (at : List ℕ) (d : Data) → Reads Any (flag_at at d)
flag_reads at d = weaker Any (λ _ _. tt) (or_reads (as_bool d) code.WrongKind at refl)

text_reads : (at : List ℕ) (d : Data) → Reads Any (text_at at d)
text_reads at d = weaker Any (λ _ _. tt) (or_reads (as_str d) code.WrongKind at refl)

-- ---- fields

module _ {A : Type 0} {P : A → Type 0} {reading : List ℕ → Data → Parsed A} (holds : (at : List ℕ) (d : Data) → Reads P (reading at d)) where
  field_reads : (k : Field) (at : List ℕ) (ms : Members) → Reads P (field k reading at ms)
  field_reads k at ms = then_reads (or_reads (value_of k ms) code.MissingKey (path_of k at) refl) (λ d _. holds (path_of k at) d)

  there_reads : (at : List ℕ) (o : Option Data) → Reads (λ x. IfSome x P) (if_there (reading at) o)
  there_reads at None = gives (λ x. IfSome x P) tt
  there_reads at (Some d) = then_reads (holds at d) (λ x is. gives (λ y. IfSome y P) is)

  optional_reads : (k : Field) (at : List ℕ) (ms : Members) → Reads (λ x. IfSome x P) (optional_field k reading at ms)
  optional_reads k at ms = there_reads (path_of k at) (value_of k ms)

  given_reads : (given : A) → P given → (at : List ℕ) (o : Option Data) → Reads P (or_given given (reading at) o)
  given_reads given is at None = gives P is
  given_reads given is at (Some d) = holds at d

  field_or_reads : (given : A) → P given → (k : Field) (at : List ℕ) (ms : Members) → Reads P (field_or given k reading at ms)
  field_or_reads given is k at ms = given_reads given is (path_of k at) (value_of k ms)

  each_reads : (at : List ℕ) (i : ℕ) (ds : Items) → Reads (All P) (each_at reading at i ds)
  each_reads at i no_items = gives (All P) (All-nil P)
  each_reads at i (item d ds) =
      then_reads (holds (index_at at i) d)
      (λ x is. then_reads (each_reads at (i + 1) ds) (λ xs are. gives (All P) (All-cons P x xs is are)))

  list_reads : (at : List ℕ) (d : Data) → Reads (All P) (list_of reading at d)
  list_reads at d = then_reads (or_reads (as_array d) code.WrongKind at refl) (λ ds _. each_reads at 0 ds)

none_reads : (code : SceneCode) (barred : List Field) (at : List ℕ) (ms : Members) → is_text_code code ≡ true → Reads Any (none_of code barred at ms)
none_reads code barred at ms holds = if_reads (has_any barred ms) (λ _. fails holds) (λ _. gives Any tt)

form_reads : (barred needed : List Field) (at : List ℕ) (ms : Members) → Reads Any (form_at barred needed at ms)
form_reads barred needed at ms =
    then_reads (none_reads code.UnknownKey barred at ms refl) (λ allowed _. missing_reads needed at allowed)

-- ---- the camera and the palettes

camera_reads : (at : List ℕ) (d : Data) → Reads IsCamera (camera_at at d)
unfolding camera_at
camera_reads at d =
    then_reads (object_reads (f.W ∷ f.H ∷ f.Peg ∷ []) (f.W ∷ f.H ∷ []) at d)
    (λ ms _. then_reads (field_reads (number_reads 1 4096) f.W at ms)
    (λ w is_w. then_reads (field_reads (number_reads 1 4096) f.H at ms)
    (λ h is_h. then_reads (optional_reads reference_reads f.Peg at ms)
    (λ peg is_peg. gives IsCamera (record { w = is_w; h = is_h; peg = is_peg })))))

channel_reads : (i : ℕ) (at : List ℕ) (d : Data) → Reads (λ n. n ≤ 255) (channel_at i at d)
channel_reads i at d =
    then_reads (or_reads (item_at i d) code.OutOfRange at refl)
    (λ channel _. weaker (λ n. n ≤ 255) (λ n within. within.1) (number_reads 0 255 (index_at at i) channel))

four_reads : (at : List ℕ) (d : Data) → Reads Any (four_at at d)
four_reads at d =
    then_reads (or_reads (as_array d) code.WrongKind at refl)
    (λ ds _. if_reads (items_len ds == 4) (λ _. gives Any tt) (λ _. fails refl))

style_reads : (at : List ℕ) (d : Data) → Reads IsStyle (style_at at d)
unfolding style_at
style_reads at d =
    then_reads (four_reads at d)
    (λ four _. then_reads (channel_reads 0 at d)
    (λ r is_r. then_reads (channel_reads 1 at d)
    (λ g is_g. then_reads (channel_reads 2 at d)
    (λ b is_b. then_reads (channel_reads 3 at d)
    (λ a is_a. gives IsStyle (record { r = is_r; g = is_g; b = is_b; a = is_a }))))))

style_key_reads : (at : List ℕ) (d : Data) → Reads StyleKeyInRange (style_key_at at d)
unfolding style_key_at
style_key_reads at d =
    then_reads (object_reads (f.Row ∷ f.Style ∷ f.Rgba ∷ []) (f.Row ∷ f.Style ∷ f.Rgba ∷ []) at d)
    (λ ms _. then_reads (field_reads row_reads f.Row at ms)
    (λ row is_row. then_reads (field_reads reference_reads f.Style at ms)
    (λ style is_style. then_reads (field_reads style_reads f.Rgba at ms)
    (λ to is_to. gives StyleKeyInRange (record { numbers = record { row = is_row; style = is_style }; to = is_to })))))

plain_reads : (at : List ℕ) (d : Data) → Reads (λ p. ColoursInRange p × HasNoKey p) (plain_palette_at at d)
unfolding plain_palette_at
plain_reads at d =
    then_reads (list_reads style_reads at d)
    (λ styles are. gives (λ p. ColoursInRange p × HasNoKey p) (record { styles = are; keys = All-nil StyleKeyInRange }, refl))

keyed_reads : (at : List ℕ) (d : Data) → Reads ColoursInRange (keyed_palette_at at d)
unfolding keyed_palette_at
keyed_reads at d =
    then_reads (object_reads (f.Styles ∷ f.Keys ∷ []) (f.Styles ∷ []) at d)
    (λ ms _. then_reads (field_reads (list_reads style_reads) f.Styles at ms)
    (λ styles are. then_reads (field_or_reads (list_reads style_key_reads) [] (All-nil StyleKeyInRange) f.Keys at ms)
    (λ keys are_keys. gives ColoursInRange (record { styles = are; keys = are_keys }))))

-- a text of format 1 isn't one of format 2
newer_is_not_1 : (format : ℕ) (t : Bool) → (is_newer format && t) ≡ true → format ≡ 1 → ⊥
newer_is_not_1 format t new is = grind (arith, nat_tests)

-- a palette in range, without a key in format 1
abbrev IsPalette : ℕ → ColoursRecord → Type 0
IsPalette format p = ColoursInRange p × (format ≡ 1 → HasNoKey p)

palette_reads : (format : ℕ) (at : List ℕ) (d : Data) → Reads (IsPalette format) (palette_at format at d)
palette_reads format at d =
    if_reads (is_newer format && is_some (as_object d))
    (λ new. weaker (IsPalette format) (λ p is. (is, λ one. absurd (newer_is_not_1 format _ new one))) (keyed_reads at d))
    (λ _. weaker (IsPalette format) (λ p is. (is.0, λ _. is.1)) (plain_reads at d))

-- ---- levels

name_reads : (at : List ℕ) (d : Data) → Reads IsName (name_at at d)
unfolding name_at
name_reads at d =
    then_reads (text_reads at d)
    (λ text _. if_reads (is_name text) (λ is. gives IsName is) (λ _. fails refl))

cm32_reads : (at : List ℕ) (d : Data) → Reads Any (is_cm32_at at d)
cm32_reads at d =
    then_reads (text_reads at d)
    (λ word _. weaker Any (λ _ _. tt) (or_reads (is_cm32 word) code.OutOfRange at refl))

kind_reads : (cm32 : Bool) (at : List ℕ) (ms : Members) → Reads IsKind (kind_of cm32 at ms)
kind_reads true at ms =
    then_reads (field_reads reference_reads f.Palette at ms) (λ palette is. gives IsKind is)
kind_reads false at ms =
    then_reads (none_reads code.UnknownKey (f.Palette ∷ []) at ms refl) (λ bare _. gives IsKind tt)

level_reads : (at : List ℕ) (d : Data) → Reads LevelInRange (level_at at d)
unfolding level_at
level_reads at d =
    then_reads (object_reads (f.Kind ∷ f.Palette ∷ f.Drawings ∷ []) (f.Kind ∷ f.Drawings ∷ []) at d)
    (λ ms _. then_reads (field_reads cm32_reads f.Kind at ms)
    (λ cm32 _. then_reads (kind_reads cm32 at ms)
    (λ kind is_kind. then_reads (field_reads (list_reads name_reads) f.Drawings at ms)
    (λ drawings are. gives LevelInRange (record { kind = is_kind; drawings = are })))))

-- ---- pegs

moves_reads : (at : List ℕ) (d : Data) → Reads Any (moves_only at d)
moves_reads at d =
    then_reads (or_reads (as_object d) code.WrongKind at refl)
    (λ ms _. none_reads code.Placement placements at ms refl)

line_reads : (format : ℕ) (at : List ℕ) (ms : Members) → Reads (λ line. format ≡ 1 → line ≡ false) (line_at format at ms)
line_reads format at ms =
    if_reads (is_newer format)
    (λ new. weaker (λ line. format ≡ 1 → line ≡ false) (λ _ _ one. absurd (grind (arith, nat_tests))) (field_or_reads flag_reads false tt f.Line at ms))
    (λ _. gives (λ line. format ≡ 1 → line ≡ false) (λ _. refl))

-- a key in range, without a line in format 1
abbrev IsKey : ℕ → PegKeyRecord → Type 0
IsKey format key = IsPegKey key × (format ≡ 1 → key.line ≡ false)

peg_key_reads : (format : ℕ) (at : List ℕ) (d : Data) → Reads (IsKey format) (peg_key_at format at d)
unfolding peg_key_at
peg_key_reads format at d =
    then_reads (moves_reads at d)
    (λ moving _. then_reads (object_reads (peg_key_fields format) (f.Row ∷ f.X ∷ f.Y ∷ []) at d)
    (λ ms _. then_reads (field_reads row_reads f.Row at ms)
    (λ row is_row. then_reads (field_reads offset_reads f.X at ms)
    (λ x is_x. then_reads (field_reads offset_reads f.Y at ms)
    (λ y is_y. then_reads (line_reads format at ms)
    (λ line is_line. gives (IsKey format) (record { row = is_row; x = is_x; y = is_y }, is_line)))))))

-- a peg in range, without a line in format 1
abbrev IsPeg : ℕ → PegRecord → Type 0
IsPeg format peg = PegInRange peg × (format ≡ 1 → HasNoLine peg)

peg_reads : (format : ℕ) (at : List ℕ) (d : Data) → Reads (IsPeg format) (peg_at format at d)
unfolding peg_at HasNoLine
peg_reads format at d =
    then_reads (object_reads (f.Parent ∷ f.Keys ∷ []) [] at d)
    (λ ms _. then_reads (optional_reads reference_reads f.Parent at ms)
    (λ parent is_parent. then_reads (field_or_reads (list_reads (peg_key_reads format)) [] (All-nil (IsKey format)) f.Keys at ms)
    (λ keys are. gives (IsPeg format)
    (record { parent = is_parent; keys = λ k d lt. (are k d lt).0 }, λ one k d lt. (are k d lt).1 one))))

-- ---- columns

shown_sheet_reads : (at : List ℕ) (ms : Members) → Reads IsShown (shown_sheet_at at ms)
unfolding shown_sheet_at
shown_sheet_reads at ms =
    then_reads (form_reads (f.Level ∷ f.Drawing ∷ []) (f.Start ∷ []) at ms)
    (λ form _. then_reads (field_reads reference_reads f.Sheet at ms)
    (λ sheet is_sheet. then_reads (field_reads row_reads f.Start at ms)
    (λ start is_start. gives IsShown (is_sheet, is_start))))

shown_drawing_reads : (at : List ℕ) (ms : Members) → Reads IsShown (shown_drawing_at at ms)
unfolding shown_drawing_at
shown_drawing_reads at ms =
    then_reads (form_reads (f.Start ∷ []) (f.Level ∷ f.Drawing ∷ []) at ms)
    (λ form _. then_reads (field_reads reference_reads f.Level at ms)
    (λ level is_level. then_reads (field_reads reference_reads f.Drawing at ms)
    (λ drawing is_drawing. gives IsShown (is_level, is_drawing))))

shown_reads : (at : List ℕ) (ms : Members) → Reads IsShown (shown_at at ms)
shown_reads at ms =
    if_reads (has f.Sheet ms) (λ _. shown_sheet_reads at ms) (λ _. shown_drawing_reads at ms)

cell_reads : (at : List ℕ) (d : Data) → Reads IsExposure (cell_at at d)
unfolding cell_at
cell_reads at d =
    then_reads (object_reads (f.From ∷ f.To ∷ f.Level ∷ f.Drawing ∷ f.Sheet ∷ f.Start ∷ []) (f.From ∷ f.To ∷ []) at d)
    (λ ms _. then_reads (field_reads row_reads f.From at ms)
    (λ from is_from. then_reads (field_reads (number_reads from 9999) f.To at ms)
    (λ to is_to. then_reads (shown_reads at ms)
    (λ shown is_shown. gives IsExposure
    (record { from = is_from; to = (omega (arith, is_from.0, is_to.0), is_to.1); rows = is_to.0; shown = is_shown })))))

column_reads : (at : List ℕ) (d : Data) → Reads ColumnInRange (column_at at d)
unfolding column_at
column_reads at d =
    then_reads (object_reads (f.Peg ∷ f.Off ∷ f.Cells ∷ []) (f.Cells ∷ []) at d)
    (λ ms _. then_reads (optional_reads reference_reads f.Peg at ms)
    (λ peg is_peg. then_reads (field_or_reads flag_reads false tt f.Off at ms)
    (λ off _. then_reads (field_reads (list_reads cell_reads) f.Cells at ms)
    (λ cells are. gives ColumnInRange (record { peg = is_peg; cells = are })))))

-- ---- nodes

node_number_reads : (at : List ℕ) (ms : Members) → Reads IsRef (node_number_at at ms)
unfolding node_number_at
node_number_reads at ms =
    then_reads (none_reads code.UnknownKey (f.Column ∷ []) at ms refl)
    (λ alone _. then_reads (field_reads reference_reads f.Node at ms) (λ number is. gives IsRef is))

column_number_reads : (at : List ℕ) (ms : Members) → Reads IsRef (column_number_at at ms)
unfolding column_number_at
column_number_reads at ms =
    then_reads (field_reads reference_reads f.Column at ms) (λ number is. gives IsRef is)

ref_reads : (at : List ℕ) (d : Data) → Reads IsRef (ref_at at d)
unfolding ref_at
ref_reads at d =
    then_reads (object_reads (f.Column ∷ f.Node ∷ []) [] at d)
    (λ ms _. if_reads (has f.Node ms) (λ _. node_number_reads at ms) (λ _. column_number_reads at ms))

-- a node in range, which format 1 knows where it knows the work
abbrev IsOfWork : Work → Node → Type 0
IsOfWork w n = NodeInRange n × (IsOldWork w → IsOldNode n)

pair_reads : (op : Op) (at : List ℕ) (d : Data) → Reads (IsOfWork (work.Pair op)) (pair_at op at d)
unfolding pair_at
pair_reads op at d =
    then_reads (object_reads (f.Op ∷ f.First ∷ f.Second ∷ []) (f.Op ∷ f.First ∷ f.Second ∷ []) at d)
    (λ ms _. then_reads (field_reads ref_reads f.First at ms)
    (λ first is_first. then_reads (field_reads ref_reads f.Second at ms)
    (λ second is_second. gives (IsOfWork (work.Pair op)) (((is_first, is_second), tt), λ _. tt))))

card_reads : (at : List ℕ) (d : Data) → Reads (IsOfWork work.Card) (card_at at d)
unfolding card_at
card_reads at d =
    then_reads (object_reads (f.Op ∷ f.Rgba ∷ []) (f.Op ∷ f.Rgba ∷ []) at d)
    (λ ms _. then_reads (field_reads style_reads f.Rgba at ms) (λ style is. gives (IsOfWork work.Card) ((tt, is), λ _. tt)))

shuffle_reads : (at : List ℕ) (d : Data) → Reads (IsOfWork work.Shuffle) (shuffle_at at d)
unfolding shuffle_at
shuffle_reads at d =
    then_reads (object_reads (f.Op ∷ f.Input ∷ f.List ∷ []) (f.Op ∷ f.Input ∷ f.List ∷ []) at d)
    (λ ms _. then_reads (field_reads ref_reads f.Input at ms)
    (λ input is_input. then_reads (field_reads (list_reads row_reads) f.List at ms)
    (λ rows are. gives (IsOfWork work.Shuffle) (((is_input, are), tt), λ _. tt))))

blur_reads : (at : List ℕ) (d : Data) → Reads (IsOfWork work.Blur) (blur_at at d)
unfolding blur_at
blur_reads at d =
    then_reads (object_reads (f.Op ∷ f.Input ∷ f.Radius ∷ []) (f.Op ∷ f.Input ∷ f.Radius ∷ []) at d)
    (λ ms _. then_reads (field_reads ref_reads f.Input at ms)
    (λ input is_input. then_reads (field_reads (number_reads 1 16) f.Radius at ms)
    (λ radius is. gives (IsOfWork work.Blur) (((is_input, is.0, is.1), tt), λ old. absurd old))))

-- the input and the styles of a filter are in range
abbrev IsFilter : Ref × List ℕ → Type 0
IsFilter filter = IsRef filter.0 × All IsFiltered filter.1

filter_reads : (at : List ℕ) (d : Data) → Reads IsFilter (filter_at at d)
unfolding filter_at
filter_reads at d =
    then_reads (object_reads (f.Op ∷ f.Input ∷ f.Styles ∷ []) (f.Op ∷ f.Input ∷ f.Styles ∷ []) at d)
    (λ ms _. then_reads (field_reads ref_reads f.Input at ms)
    (λ input is_input. then_reads (field_reads (list_reads (number_reads 0 4095)) f.Styles at ms)
    (λ styles are. gives IsFilter (is_input, λ k d lt. (omega (arith, (are k d lt).1))))))

keep_reads : (at : List ℕ) (d : Data) → Reads (IsOfWork work.Keep) (keep_at at d)
unfolding keep_at
keep_reads at d =
    then_reads (filter_reads at d) (λ filter is. gives (IsOfWork work.Keep) ((is, tt), λ old. absurd old))

delete_reads : (at : List ℕ) (d : Data) → Reads (IsOfWork work.Delete) (delete_at at d)
unfolding delete_at
delete_reads at d =
    then_reads (filter_reads at d) (λ filter is. gives (IsOfWork work.Delete) ((is, tt), λ old. absurd old))

node_of_reads : (w : Work) (at : List ℕ) (d : Data) → Reads (IsOfWork w) (node_of w at d)
node_of_reads (work.Pair op) at d = pair_reads op at d
node_of_reads work.Card at d = card_reads at d
node_of_reads work.Shuffle at d = shuffle_reads at d
node_of_reads work.Blur at d = blur_reads at d
node_of_reads work.Keep at d = keep_reads at d
node_of_reads work.Delete at d = delete_reads at d

-- a word that means a work in format 1 means one that it knows
first_old : (t : Bool) (w : Work) (rest : Option Work) → IsOldWork w → IfSome rest IsOldWork → IfSome (if t then Some w else rest) IsOldWork
first_old true w rest is are = is
first_old false w rest is are = are

old_works : (word : List ℕ) → IfSome (work_of 1 word) IsOldWork
old_works word =
    first_old (bytes_eq word (codes "over")) (work.Pair op.Over) _ tt
    (first_old (bytes_eq word (codes "add")) (work.Pair op.Add) _ tt
    (first_old (bytes_eq word (codes "sub")) (work.Pair op.Sub) _ tt
    (first_old (bytes_eq word (codes "mult")) (work.Pair op.Mult) _ tt
    (first_old (bytes_eq word (codes "min")) (work.Pair op.Min) _ tt
    (first_old (bytes_eq word (codes "max")) (work.Pair op.Max) _ tt
    (first_old (bytes_eq word (codes "in")) (work.Pair op.MatteIn) _ tt
    (first_old (bytes_eq word (codes "out")) (work.Pair op.MatteOut) _ tt
    (first_old (bytes_eq word (codes "card")) work.Card _ tt
    (first_old (bytes_eq word (codes "shuffle")) work.Shuffle _ tt tt)))))))))

old_work : (format : ℕ) (word : List ℕ) (w : Work) → work_of format word ≡ Some w → format ≡ 1 → IsOldWork w
old_work format word w is one =
    let old : IfSome (work_of format word) IsOldWork = subst (λ n. IfSome (work_of n word) IsOldWork) (sym one) (old_works word) in
    subst (λ o. IfSome o IsOldWork) is old

work_reads : (format : ℕ) (at : List ℕ) (d : Data) → Reads (λ w. format ≡ 1 → IsOldWork w) (work_at format at d)
work_reads format at d =
    then_reads (text_reads at d)
    (λ word _. weaker (λ w. format ≡ 1 → IsOldWork w) (λ w is. old_work format word w is) (or_reads (work_of format word) code.OutOfRange at refl))

-- a node in range, which format 1 knows where the text is of it
abbrev IsNodeOf : ℕ → Node → Type 0
IsNodeOf format n = NodeInRange n × (format ≡ 1 → IsOldNode n)

node_reads : (format : ℕ) (at : List ℕ) (d : Data) → Reads (IsNodeOf format) (node_at format at d)
unfolding node_at
node_reads format at d =
    then_reads (or_reads (as_object d) code.WrongKind at refl)
    (λ ms _. then_reads (field_reads (work_reads format) f.Op at ms)
    (λ w old. weaker (IsNodeOf format) (λ n is. (is.0, λ one. is.1 (old one))) (node_of_reads w at d)))

-- ---- sheets and the scene

-- a sheet in range, with nothing in format 1 that came with format 2
abbrev IsSheetOf : ℕ → SheetRecord → Type 0
IsSheetOf format sheet = SheetInRange sheet × (format ≡ 1 → HasNoLines sheet) × (format ≡ 1 → HasOldNodes sheet)

sheet_reads : (format : ℕ) (at : List ℕ) (d : Data) → Reads (IsSheetOf format) (sheet_at format at d)
unfolding sheet_at HasNoLines HasOldNodes
sheet_reads format at d =
    then_reads (object_reads (f.Pegs ∷ f.Columns ∷ f.Nodes ∷ f.Out ∷ []) (f.Columns ∷ []) at d)
    (λ ms _. then_reads (field_or_reads (list_reads (peg_reads format)) [] (All-nil (IsPeg format)) f.Pegs at ms)
    (λ pegs are_pegs. then_reads (field_reads (list_reads column_reads) f.Columns at ms)
    (λ columns are_columns. then_reads (field_or_reads (list_reads (node_reads format)) [] (All-nil (IsNodeOf format)) f.Nodes at ms)
    (λ nodes are_nodes. then_reads (optional_reads (list_reads ref_reads) f.Out at ms)
    (λ out is_out. gives (IsSheetOf format) (
      record {
        pegs = λ k d lt. (are_pegs k d lt).0;
        columns = are_columns;
        numbers = record { are_nodes = λ k d lt. (are_nodes k d lt).0.0; are_refs = is_out };
        cards = λ k d lt. (are_nodes k d lt).0.1;
      },
      λ one k d lt. (are_pegs k d lt).1 one,
      λ one k d lt. (are_nodes k d lt).1 one,
    ))))))

scene_at_reads : (at : List ℕ) (d : Data) → Reads IsInRange (scene_at at d)
unfolding scene_at
scene_at_reads at d =
    then_reads (object_reads scene_fields scene_fields at d)
    (λ ms _. then_reads (field_reads (number_reads 1 2) f.Format at ms)
    (λ format is_format. then_reads (field_reads camera_reads f.Camera at ms)
    (λ camera is_camera. then_reads (field_reads (list_reads (palette_reads format)) f.Palettes at ms)
    (λ palettes are_palettes. then_reads (field_reads (list_reads level_reads) f.Levels at ms)
    (λ levels are_levels. then_reads (field_reads (list_reads (sheet_reads format)) f.Sheets at ms)
    (λ sheets are_sheets. gives IsInRange
    (record {
      format = record {
        least = is_format.0;
        most = is_format.1;
        plain = λ one. record {
          no_keys = λ k d lt. (are_palettes k d lt).1 one;
          no_lines = λ k d lt. (are_sheets k d lt).1 one;
          old_nodes = λ k d lt. (are_sheets k d lt).2 one;
        };
      };
      camera = is_camera;
      palettes = λ k d lt. (are_palettes k d lt).0;
      levels = are_levels;
      sheets = λ k d lt. (are_sheets k d lt).0;
    })))))))

pub scene_reads : (bytes : List ℕ) → Reads IsInRange (scene_of bytes)
unfolding scene_of
scene_reads bytes =
    then_reads (or_reads (json_of bytes) code.NotJson [] refl) (λ d _. scene_at_reads [] d)
