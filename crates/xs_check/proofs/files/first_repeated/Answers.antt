use Rattle.std.proofs.Common.{◌≢◌, ◌<◌, ◌∙◌, ℕ, List, [], All, length, take, get_or, sym, below_more, arith, Bor}
use Rattle.std.proofs.lemmas.List.{length-map}
use Rattle.std.proofs.lemmas.Map.Text.{btree_map_updates_str}
use Rattle.xs_check.proofs.Repeats.{no_text, texts, text_repeats, text_differs, knows_more}
use Rattle.xs_check.proofs.files.first_repeated.Goals as goal

pub returns-then-is_some : goal.returns-then-is_some
returns-then-is_some c =
    let below : c.loop-d.d < length c.args.files.now = omega arith in (
      rw (length-map c.args.files.now (λ (f : Bor (List ℕ)). f.now)) below,
      text_repeats c.args.files.now c.loop-d.d c.loop-d.known c.loop-d.invariant.known c.in_ok-insert.field-0 c.in_ok-insert.ensures.old
          (sym c.is_some.ensures ∙ c.if-is_some.true),
      c.loop-d.invariant.apart,
    )

pub loop-d-preserved : goal.loop-d-preserved
loop-d-preserved c =
    let inside : c.loop-d.d < length c.args.files.now = omega arith in
    let below : c.loop-d.d < length (texts c.args.files.now) = rw (length-map c.args.files.now (λ (f : Bor (List ℕ)). f.now)) inside in
    let names = texts c.args.files.now in
    record {
      known =
          knows_more c.args.files.now c.loop-d.d c.loop-d.known c.loop-d.invariant.known c.insert.new.self below
          (btree_map_updates_str (get_or c.args.files.now c.loop-d.d no_text).now c.loop-d.known c.insert.new.self _ c.in_ok-insert.ensures.updates);
      apart =
          below_more (λ (j : ℕ). All (λ earlier. earlier ≢ get_or names j []) (take j names)) c.loop-d.d c.loop-d.invariant.apart
          (text_differs c.args.files.now c.loop-d.d c.loop-d.known c.loop-d.invariant.known c.in_ok-insert.field-0 c.in_ok-insert.ensures.old
          (sym c.is_some.ensures ∙ c.if-is_some.false));
    }
