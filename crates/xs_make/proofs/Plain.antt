-- A generated scene has nothing that came with format 2
use Rattle.std.proofs.Common.{◌≡◌, ℕ, false, [], ◌∷◌, All, refl}
use Rattle.std.proofs.lemmas.List.Elements.{All-cons, All-map, All-nil}
use Rattle.std.specs.List.{range_with_len}
use Rattle.xs_scene.specs.Ranges.{HasNoKey, HasNoLine, HasNoLines, HasOldNodes, IsOldNode, IsPlain}
use Rattle.xs_scene.specs.Records.{PegKeyRecord}
use Rattle.xs_make.specs.Scenes.{key_from, keys_of, made_node, palette_from, peg_from, sheet_from}

pub each : {A : Type 0} (P : A → Type 0) (x : A) → P x → All P (x ∷ [])
each P x holds = All-cons P x [] holds (All-nil P)

peg_has_no_line : (x count : ℕ) → HasNoLine (peg_from x count)
unfolding HasNoLine
peg_has_no_line x count =
    All-map (λ (key : PegKeyRecord). key.line ≡ false) (key_from x) (range_with_len 0 count) (λ k d less. refl)

sheet_has_no_lines : (x rows : ℕ) → HasNoLines (sheet_from x rows)
unfolding HasNoLines
sheet_has_no_lines x rows = each HasNoLine (peg_from x (keys_of rows)) (peg_has_no_line x (keys_of rows))

sheet_has_old_nodes : (x rows : ℕ) → HasOldNodes (sheet_from x rows)
unfolding HasOldNodes
sheet_has_old_nodes x rows = each IsOldNode made_node tt

pub generated_is_plain : (x y rows : ℕ) → IsPlain (palette_from x ∷ []) (sheet_from y rows ∷ [])
generated_is_plain x y rows = record {
  no_keys = each HasNoKey (palette_from x) refl;
  no_lines = each HasNoLines (sheet_from y rows) (sheet_has_no_lines y rows);
  old_nodes = each HasOldNodes (sheet_from y rows) (sheet_has_old_nodes y rows);
}
