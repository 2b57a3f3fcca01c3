use Rattle.std.proofs.Common.{◌≡◌, ◌<◌, ℕ, pos, ◌-ℤ◌, Bool, IfOk, List, length, to_z, of_z, w32, sym, ap, ap₂, ◌∙◌, subst, arith}
use Rattle.std.proofs.lemmas.Int.{ints}
use Rattle.xs_meaning.specs.Expressions.{root_of}
use Rattle.xs_meaning.specs.RowValues.{camera_at}
use Rattle.xs_pixel.specs.Points.{Point, point, opposite}
use Rattle.xs_step.specs.declared.spot.At.TheVariants.{Row}
use Rattle.xs_step.specs.Spots.{spot}
use Rattle.xs_demand.specs.Blocks.{Spread, enter, Enters}
use Rattle.xs_demand.specs.Renamed.{renamed}
use Rattle.xs_build.specs.declared.scope.Scope.{Scope}
use Rattle.xs_build.specs.declared.state.State.{State}
use Rattle.xs_build.specs.States.{named, spot_expr, state_expr, MayAsk}
use Rattle.xs_build.proofs.Giving.{gives-along}
use Rattle.xs_build.proofs.Roots.{few_nodes, root-answer}
use Rattle.xs_build.proofs.build.Build.root.Goals as goal

pub number_any-requires : goal.number_any-requires
number_any-requires c =
    let s = c.args.s.now in
    let at : Scope = record { alloc = c.args.alloc; scene = c.args.s; names = c.args.names; most = c.args.most } in
    let good = c.scene.ensures.good in
    let near = c.camera_place-x.ensures.near in
    let x0 = c.camera_place-x.result.0 in
    let y0 = c.camera_place-x.result.1 in
    let across : to_z w32 (of_z w32 (pos 0 -ℤ to_z w32 (of_z w32 x0))) ≡ pos 0 -ℤ x0 = omega (arith, ints, near.left, near.right) in
    let up : to_z w32 (of_z w32 (pos 0 -ℤ to_z w32 (of_z w32 y0))) ≡ pos 0 -ℤ y0 = omega (arith, ints, near.bottom, near.top) in
    let from : State = record { spot = c.row.result; x = to_z w32 (of_z w32 (pos 0 -ℤ to_z w32 (of_z w32 x0))); y = to_z w32 (of_z w32 (pos 0 -ℤ to_z w32 (of_z w32 y0))); dropped = 0; growth = 0 } in
    let state : State = record { spot = spot 0 Row c.args.row; x = pos 0 -ℤ x0; y = pos 0 -ℤ y0; dropped = 0; growth = 0 } in
    let is : from ≡ state = λ i. record { spot = c.row.ensures i; x = across i; y = up i; dropped = 0; growth = 0 } in
    subst (λ (u : State). MayAsk at 4128 u c.begin.new.self) (sym is)
    (record {
      ready = record { ends = good.ends; names = c.requires.names; most = c.requires.most };
      sound = c.in_ok-begin.ensures.sound s c.args.names.now;
      there = good.first_sheet;
      ends = c.ways_end.ensures s good.ends (few_nodes s good) 0 c.args.row;
      state =
          record {
            room =
                record {
                  depth = 16;
                  ends = good.ends.sheets_end 0;
                  far = 4194304;
                  near =
                      record {
                        left = omega (arith, ints, near.right);
                        right = omega (arith, ints, near.left);
                        bottom = omega (arith, ints, near.top);
                        top = omega (arith, ints, near.bottom);
                      };
                  fits = omega arith;
                };
            growth = omega arith;
            set = c.in_ok-begin.ensures.some;
          };
    })

pub returns-clause-entered : goal.returns-clause-entered
returns-clause-entered c =
    let s = c.args.s.now in
    let names = c.args.names.now in
    let b = c.begin.new.self in
    let new = c.number_any.new.build in
    let at : Scope = record { alloc = c.args.alloc; scene = c.args.s; names = c.args.names; most = c.args.most } in
    let near = c.camera_place-x.ensures.near in
    let x0 = c.camera_place-x.result.0 in
    let y0 = c.camera_place-x.result.1 in
    let across : to_z w32 (of_z w32 (pos 0 -ℤ to_z w32 (of_z w32 x0))) ≡ pos 0 -ℤ x0 = omega (arith, ints, near.left, near.right) in
    let up : to_z w32 (of_z w32 (pos 0 -ℤ to_z w32 (of_z w32 y0))) ≡ pos 0 -ℤ y0 = omega (arith, ints, near.bottom, near.top) in
    let from : State = record { spot = c.row.result; x = to_z w32 (of_z w32 (pos 0 -ℤ to_z w32 (of_z w32 x0))); y = to_z w32 (of_z w32 (pos 0 -ℤ to_z w32 (of_z w32 y0))); dropped = 0; growth = 0 } in
    let state : State = record { spot = spot 0 Row c.args.row; x = pos 0 -ℤ x0; y = pos 0 -ℤ y0; dropped = 0; growth = 0 } in
    let is : from ≡ state = λ i. record { spot = c.row.ensures i; x = across i; y = up i; dropped = 0; growth = 0 } in
    let camera : point x0 y0 ≡ camera_at s c.args.row =
    c.camera_place-x.ensures.value in
    let root = renamed (named names) (root_of s c.args.row) in
    let expr : state_expr s names b.sets.keys from ≡ root =
    ap (state_expr s names b.sets.keys) is
    ∙ ap₂ (λ (f : ℕ → Bool) (o : Point). spot_expr s names (spot 0 Row c.args.row) f (opposite o)) c.in_ok-begin.ensures.none camera
    ∙ ap (renamed (named names)) (root-answer s c.args.row) in
    let given = gives-along at b new (state_expr s names b.sets.keys from) root 0 c.number_any.result expr c.number_any.ensures in
    subst (λ (l : List Spread). IfOk c.number_any.result (λ n. Enters l new.entered root 0 n)) c.in_ok-begin.ensures.entered given.entered

pub returns-clause-full : goal.returns-clause-full
returns-clause-full c = λ is_full.
    let s = c.args.s.now in
    let names = c.args.names.now in
    let b = c.begin.new.self in
    let new = c.number_any.new.build in
    let at : Scope = record { alloc = c.args.alloc; scene = c.args.s; names = c.args.names; most = c.args.most } in
    let near = c.camera_place-x.ensures.near in
    let x0 = c.camera_place-x.result.0 in
    let y0 = c.camera_place-x.result.1 in
    let across : to_z w32 (of_z w32 (pos 0 -ℤ to_z w32 (of_z w32 x0))) ≡ pos 0 -ℤ x0 = omega (arith, ints, near.left, near.right) in
    let up : to_z w32 (of_z w32 (pos 0 -ℤ to_z w32 (of_z w32 y0))) ≡ pos 0 -ℤ y0 = omega (arith, ints, near.bottom, near.top) in
    let from : State = record { spot = c.row.result; x = to_z w32 (of_z w32 (pos 0 -ℤ to_z w32 (of_z w32 x0))); y = to_z w32 (of_z w32 (pos 0 -ℤ to_z w32 (of_z w32 y0))); dropped = 0; growth = 0 } in
    let state : State = record { spot = spot 0 Row c.args.row; x = pos 0 -ℤ x0; y = pos 0 -ℤ y0; dropped = 0; growth = 0 } in
    let is : from ≡ state = λ i. record { spot = c.row.ensures i; x = across i; y = up i; dropped = 0; growth = 0 } in
    let camera : point x0 y0 ≡ camera_at s c.args.row =
    c.camera_place-x.ensures.value in
    let root = renamed (named names) (root_of s c.args.row) in
    let expr : state_expr s names b.sets.keys from ≡ root =
    ap (state_expr s names b.sets.keys) is
    ∙ ap₂ (λ (f : ℕ → Bool) (o : Point). spot_expr s names (spot 0 Row c.args.row) f (opposite o)) c.in_ok-begin.ensures.none camera
    ∙ ap (renamed (named names)) (root-answer s c.args.row) in
    let given = gives-along at b new (state_expr s names b.sets.keys from) root 0 c.number_any.result expr c.number_any.ensures in
    subst (λ (l : List Spread). c.args.most < length (enter root 0 l)) c.in_ok-begin.ensures.entered (given.full is_full)
