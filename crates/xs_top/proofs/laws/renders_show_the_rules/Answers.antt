use Rattle.xs_levels.specs.Table.{table_of}
use Rattle.xs_top.specs.Drawings.{pictures_of}
use Rattle.xs_top.proofs.Drawn.{picture_is}
use Rattle.xs_top.proofs.laws.renders_show_the_rules.Goals as goal

pub returns : goal.returns
returns c = record {
  rules = λ files name base from to before now rendered.
      let s = rendered.scene in
      let pictures = pictures_of files s in
      let faultless = c.scenes_without_a_fault_are_good.ensures in
      let tables = c.values_follow_the_tables.ensures in
      let ends = faultless.ends s rendered.faultless in
      record {
        good = faultless.good s rendered.faultless (c.texts_say_scenes_in_range.ensures rendered.says.bytes s rendered.says.text);
        pixels = c.pictures_of_files_are_coloured_as_written.ensures.pixels files (table_of s);
        columns = tables.columns s pictures;
        nodes = tables.nodes s pictures ends;
        rows = tables.rows s pictures ends;
        count = c.frames_go_row_by_row.ensures.count s pictures;
        order = c.frames_go_row_by_row.ensures.order s pictures;
      };
  drawn = picture_is;
}
