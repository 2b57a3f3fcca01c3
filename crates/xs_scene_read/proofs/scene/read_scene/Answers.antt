use Rattle.xs_scene_read.proofs.scene.read_scene.Goals as goal

pub invariant_of-result : goal.invariant_of-result
invariant_of-result c = record {
  format = record {
    least = c.in_ok-format.ensures.range.0;
    most = c.in_ok-format.ensures.range.1;
    plain = λ one. record {
      no_keys = c.in_ok-palettes.ensures.known one;
      no_lines = λ k d lt. (c.in_ok-sheets.ensures.known one k d lt).0;
      old_nodes = λ k d lt. (c.in_ok-sheets.ensures.known one k d lt).1;
    };
  };
  camera = c.in_ok-camera.ensures.range;
  palettes = c.in_ok-palettes.ensures.range;
  levels = c.in_ok-levels.ensures.range;
  sheets = c.in_ok-sheets.ensures.range;
}
