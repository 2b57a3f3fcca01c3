-- The expressions of states, step by step, and what may be entered next
use Rattle.std.proofs.Common.{length, ◌≡◌, ◌≤◌, ◌<◌, ◌+◌, ◌-◌, ◌+ℤ◌, ℕ, Bool, true, false, cond, List, [], ◌∷◌, map, refl, sym, ap, ◌∙◌, subst, arith}
use Rattle.std.proofs.lemmas.Bool.{false≢true}
use Rattle.xs_pixel.specs.Channels.{Channels}
use Rattle.xs_pixel.specs.Points.{Point, plus}
use Rattle.xs_pixel.specs.declared.operation.Op.{Op}
use Rattle.xs_pixel.specs.declared.style.Style.{Style}
use Rattle.xs_scene.specs.declared.node.Ref.{Ref}
use Rattle.xs_scene.specs.Records.{SceneRecord}
use Rattle.xs_meaning.specs.Drawings.{colours_of, number_of}
use Rattle.xs_meaning.specs.Ends.{AllEnd}
use Rattle.xs_meaning.specs.Expressions.{Expr, is_clear, pair_of, blur_of, card_of, leaf_by, by_offsets}
use Rattle.xs_meaning.specs.Expressions as expr
use Rattle.xs_meaning.specs.Palettes.{pixel_of, is_clear_pixel}
use Rattle.xs_step.specs.declared.spot.Spot.{Spot}
use Rattle.xs_step.specs.declared.step.Step.{Step}
use Rattle.xs_step.specs.declared.step.Step.TheVariants.{Clear, Drawing, Nested, Same, Keep, Delete, Pair, Blur, Card, Over}
use Rattle.xs_step.specs.Readings.{answer_at}
use Rattle.xs_step.specs.Spots.{input_spot}
use Rattle.xs_step.specs.Steps.{step_of, IsBounded}
use Rattle.xs_step.specs.Ways.{LeadsTo, WaysEnd}
use Rattle.xs_step.proofs.Readings.{answer-step}
use Rattle.xs_step.proofs.Ways.{WaysEnd-positive, WaysEnd-step}
use Rattle.xs_demand.specs.Renamed.{renamed}
use Rattle.xs_build.specs.declared.build.Build.{Build}
use Rattle.xs_build.specs.declared.scope.Scope.{Scope}
use Rattle.xs_build.specs.declared.state.State.{State}
use Rattle.xs_build.specs.Room.{HasRoom}
use Rattle.xs_build.specs.Stacks.{stacked, seen_down}
use Rattle.xs_build.specs.States.{named, state_expr, stepped_expr, terminal_expr, dropped_in, offset_of, MayAsk, MayEnter, MayStep}
use Rattle.xs_build.proofs.Rooms.{RoomIn, room-step}
use Rattle.xs_build.proofs.StackLemmas.{renamed-pair_of, composed-stacked, renamed-seen}

-- ---- expressions

pub state-step :
    (s : SceneRecord) (names : List ℕ) (sets : List (List Bool)) (t : State) → AllEnd s.sheets
    → state_expr s names sets t ≡ stepped_expr s names sets t (step_of s t.spot)
unfolding by_offsets
state-step s names sets t ends =
    ap (λ (e : Point → Expr). renamed (named names) (e (offset_of t)))
    (answer-step (by_offsets s) s (λ q. refl) ends t.spot (dropped_in sets t.dropped))

pub expr-nested :
    (s : SceneRecord) (names : List ℕ) (sets : List (List Bool)) (t : State) (row : Spot) (q : Point)
    → state_expr s names sets (record t { spot = row; x = t.x +ℤ q.x; y = t.y +ℤ q.y })
    ≡ stepped_expr s names sets t (Nested row q)
unfolding by_offsets
expr-nested s names sets t row q = refl

pub expr-drawing :
    (s : SceneRecord) (names : List ℕ) (sets : List (List Bool)) (t : State) (level index : ℕ) (q : Point)
    → let d = number_of s.levels level index in
    renamed (named names) (leaf_by (colours_of s d) d t.spot.row (dropped_in sets t.dropped) (plus (offset_of t) q))
    ≡ stepped_expr s names sets t (Drawing level index q)
unfolding by_offsets
expr-drawing s names sets t level index q = refl

pub expr-pair :
    (s : SceneRecord) (names : List ℕ) (sets : List (List Bool)) (t : State) (op : Op) (a b : Spot)
    → pair_of op (state_expr s names sets (record t { spot = a })) (state_expr s names sets (record t { spot = b }))
    ≡ stepped_expr s names sets t (Pair op a b)
unfolding by_offsets
expr-pair s names sets t op a b =
    sym
    (renamed-pair_of (named names) op
    (answer_at (by_offsets s) s a (dropped_in sets t.dropped) (offset_of t))
    (answer_at (by_offsets s) s b (dropped_in sets t.dropped) (offset_of t)))

renamed-blur_of : (names : ℕ → ℕ) (n : ℕ) (e : Expr) → renamed names (blur_of n e) ≡ blur_of n (renamed names e)
renamed-blur_of names n expr.Clear = refl
renamed-blur_of names n (expr.Leaf d at) = refl
renamed-blur_of names n (expr.Tinted d at tint) = refl
renamed-blur_of names n (expr.Card pixel) = refl
renamed-blur_of names n (expr.Pair op a b) = refl
renamed-blur_of names n (expr.Blur m a) = refl

clear-blur_of : (n : ℕ) (e : Expr) → is_clear (blur_of n e) ≡ is_clear e
clear-blur_of n expr.Clear = refl
clear-blur_of n (expr.Leaf d at) = refl
clear-blur_of n (expr.Tinted d at tint) = refl
clear-blur_of n (expr.Card pixel) = refl
clear-blur_of n (expr.Pair op a b) = refl
clear-blur_of n (expr.Blur m a) = refl

blur-seen : (n : ℕ) (e : Expr) → is_clear e ≡ false → blur_of n e ≡ expr.Blur n e
blur-seen n expr.Clear seen = cc
blur-seen n (expr.Leaf d at) seen = refl
blur-seen n (expr.Tinted d at tint) seen = refl
blur-seen n (expr.Card pixel) seen = refl
blur-seen n (expr.Pair op a b) seen = refl
blur-seen n (expr.Blur m a) seen = refl

expr-blur_of :
    (s : SceneRecord) (names : List ℕ) (sets : List (List Bool)) (t : State) (n : ℕ) (a : Spot)
    → stepped_expr s names sets t (Blur n a) ≡ blur_of n (state_expr s names sets (record t { spot = a }))
unfolding by_offsets
expr-blur_of s names sets t n a =
    renamed-blur_of (named names) n (answer_at (by_offsets s) s a (dropped_in sets t.dropped) (offset_of t))

pub blurred-seen :
    (s : SceneRecord) (names : List ℕ) (sets : List (List Bool)) (t : State) (n : ℕ) (a : Spot)
    → is_clear (stepped_expr s names sets t (Blur n a)) ≡ false
    → is_clear (state_expr s names sets (record t { spot = a })) ≡ false
blurred-seen s names sets t n a seen =
    sym (clear-blur_of n (state_expr s names sets (record t { spot = a })))
    ∙ ap is_clear (sym (expr-blur_of s names sets t n a)) ∙ seen

pub expr-blur :
    (s : SceneRecord) (names : List ℕ) (sets : List (List Bool)) (t : State) (n : ℕ) (a : Spot)
    → is_clear (stepped_expr s names sets t (Blur n a)) ≡ false
    → expr.Blur n (state_expr s names sets (record t { spot = a })) ≡ stepped_expr s names sets t (Blur n a)
expr-blur s names sets t n a seen =
    sym
    (expr-blur_of s names sets t n a
    ∙ blur-seen n (state_expr s names sets (record t { spot = a })) (blurred-seen s names sets t n a seen))

card-by : (names : ℕ → ℕ) (pixel : Channels) (b : Bool) → is_clear (renamed names (cond b expr.Clear (expr.Card pixel))) ≡ false
    → expr.Card pixel ≡ renamed names (cond b expr.Clear (expr.Card pixel))
card-by names pixel true seen = absurd (false≢true (sym seen))
card-by names pixel false seen = refl

pub expr-card :
    (s : SceneRecord) (names : List ℕ) (sets : List (List Bool)) (t : State) (style : Style)
    → is_clear (stepped_expr s names sets t (Card style)) ≡ false
    → expr.Card (pixel_of style) ≡ stepped_expr s names sets t (Card style)
unfolding by_offsets
expr-card s names sets t style seen = card-by (named names) (pixel_of style) (is_clear_pixel (pixel_of style)) seen

pub never-clear :
    (s : SceneRecord) (names : List ℕ) (sets : List (List Bool)) (t : State)
    → is_clear (stepped_expr s names sets t Clear) ≡ false → ⊥
unfolding by_offsets
never-clear s names sets t seen = false≢true (sym seen)

map_thrice :
    {A B : Type 0} (f : A → Point → B) (g : B → B) (o : Point) (xs : List A)
    → map g (map (λ (e : Point → B). e o) (map f xs)) ≡ map (λ x. g (f x o)) xs
map_thrice f g o [] = refl
map_thrice f g o (x ∷ xs) = ap (λ ys. g (f x o) ∷ ys) (map_thrice f g o xs)

pub expr-over :
    (s : SceneRecord) (names : List ℕ) (sets : List (List Bool)) (t : State) (terminals : List Ref)
    → stacked (seen_down (map (terminal_expr s names sets t) terminals)) ≡ stepped_expr s names sets t (Over terminals)
expr-over s names sets t terminals =
    let E : Ref → Point → Expr =
    λ r. answer_at (by_offsets s) s (input_spot t.spot.sheet r t.spot.row) (dropped_in sets t.dropped) in
    let at : List Expr = map (λ (e : Point → Expr). e (offset_of t)) (map E terminals) in
    sym
    (ap (renamed (named names)) (composed-stacked s (map E terminals) (offset_of t))
    ∙ renamed-seen (named names) at
    ∙ ap (λ (es : List Expr). stacked (seen_down es)) (map_thrice E (renamed (named names)) (offset_of t) terminals))

-- ---- what may be entered next

pub may-positive : (at : Scope) (left : ℕ) (t : State) (step : Step) (b : Build) → MayStep at left t step b → 1 ≤ left
may-positive at left t step b m = WaysEnd-positive at.scene.now left t.spot m.ask.ends

pub leads-in :
    (at : Scope) (left : ℕ) (t : State) (step : Step) (b : Build) → MayStep at left t step b
    → LeadsTo (WaysEnd at.scene.now (left - 1)) t.spot step
leads-in at left t step b m =
    subst (λ (x : Step). LeadsTo (WaysEnd at.scene.now (left - 1)) t.spot x) (sym m.is)
    (WaysEnd-step at.scene.now left t.spot m.ask.ends)

rooms-in :
    (at : Scope) (left : ℕ) (t : State) (step : Step) (b : Build) → MayStep at left t step b
    → RoomIn at.scene.now (offset_of t) step
rooms-in at left t step b m =
    subst (RoomIn at.scene.now (offset_of t)) (sym m.is)
    (room-step at.scene.now t.spot (offset_of t) m.ask.state.room (subst IsBounded m.is m.bounded))

ask-next :
    (at : Scope) (left : ℕ) (t : State) (step : Step) (b : Build) → MayStep at left t step b → (spot : Spot)
    → (spot.sheet < length at.scene.now.sheets) → WaysEnd at.scene.now (left - 1) spot
    → HasRoom at.scene.now spot.sheet (offset_of t) → MayAsk at (left - 1) (record t { spot = spot }) b
ask-next at left t step b m spot there ends room =
    let positive = may-positive at left t step b m in
    record {
      ready = m.ask.ready;
      sound = m.ask.sound;
      there = there;
      ends = ends;
      state = record { room = room; growth = omega (arith, m.ask.state.growth); set = m.ask.state.set };
    }

pub next-same :
    (at : Scope) (left : ℕ) (t : State) (next : Spot) (b : Build) → MayStep at left t (Same next) b
    → MayEnter at (left - 1) (record t { spot = next }) b
next-same at left t next b m =
    record {
      ask = ask-next at left t (Same next) b m next m.there (leads-in at left t (Same next) b m) (rooms-in at left t (Same next) b m);
      seen = m.seen;
    }

pub next-keep :
    (at : Scope) (left : ℕ) (t : State) (next : Spot) (styles : List ℕ) (b : Build) → MayStep at left t (Keep next styles) b
    → MayAsk at (left - 1) (record t { spot = next }) b
next-keep at left t next styles b m =
    ask-next at left t (Keep next styles) b m next m.there (leads-in at left t (Keep next styles) b m)
    (rooms-in at left t (Keep next styles) b m)

pub next-delete :
    (at : Scope) (left : ℕ) (t : State) (next : Spot) (styles : List ℕ) (b : Build) → MayStep at left t (Delete next styles) b
    → MayAsk at (left - 1) (record t { spot = next }) b
next-delete at left t next styles b m =
    ask-next at left t (Delete next styles) b m next m.there (leads-in at left t (Delete next styles) b m)
    (rooms-in at left t (Delete next styles) b m)

pub next-first :
    (at : Scope) (left : ℕ) (t : State) (op : Op) (first second : Spot) (b : Build) → MayStep at left t (Pair op first second) b
    → MayAsk at (left - 1) (record t { spot = first }) b
next-first at left t op first second b m =
    ask-next at left t (Pair op first second) b m first m.there.0 (leads-in at left t (Pair op first second) b m).0
    (rooms-in at left t (Pair op first second) b m).0

pub next-second :
    (at : Scope) (left : ℕ) (t : State) (op : Op) (first second : Spot) (b : Build) → MayStep at left t (Pair op first second) b
    → MayAsk at (left - 1) (record t { spot = second }) b
next-second at left t op first second b m =
    ask-next at left t (Pair op first second) b m second m.there.1 (leads-in at left t (Pair op first second) b m).1
    (rooms-in at left t (Pair op first second) b m).1

pub next-nested :
    (at : Scope) (left : ℕ) (t : State) (row : Spot) (q : Point) (b : Build) → MayStep at left t (Nested row q) b
    → MayEnter at (left - 1) (record t { spot = row; x = t.x +ℤ q.x; y = t.y +ℤ q.y }) b
next-nested at left t row q b m =
    let positive = may-positive at left t (Nested row q) b m in
    record {
      ask =
          record {
            ready = m.ask.ready;
            sound = m.ask.sound;
            there = m.there;
            ends = leads-in at left t (Nested row q) b m;
            state =
                record {
                  room = rooms-in at left t (Nested row q) b m;
                  growth = omega (arith, m.ask.state.growth);
                  set = m.ask.state.set;
                };
          };
      seen = ap is_clear (expr-nested at.scene.now at.names.now b.sets.keys t row q) ∙ m.seen;
    }

pub next-blur :
    (at : Scope) (left : ℕ) (t : State) (n : ℕ) (next : Spot) (b : Build) → MayStep at left t (Blur n next) b
    → MayEnter at (left - 1) (record t { spot = next; growth = t.growth + n }) b
next-blur at left t n next b m =
    let positive = may-positive at left t (Blur n next) b m in
    record {
      ask =
          record {
            ready = m.ask.ready;
            sound = m.ask.sound;
            there = m.there;
            ends = leads-in at left t (Blur n next) b m;
            state =
                record {
                  room = rooms-in at left t (Blur n next) b m;
                  growth = omega (arith, m.ask.state.growth, m.bounded.1);
                  set = m.ask.state.set;
                };
          };
      seen = blurred-seen at.scene.now at.names.now b.sets.keys t n next m.seen;
    }
