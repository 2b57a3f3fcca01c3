-- The normal form of a state stands for the same expression
use Rattle.std.proofs.Common.{◌≡◌, ◌<◌, ◌&&◌, ℕ, pos, Bool, true, false, cond, Some, List, length, refl, sym, ap, ◌∙◌, subst, arith}
use Rattle.std.proofs.lemmas.Bool.{false≢true}
use Rattle.std.proofs.lemmas.Int.{ints}
use Rattle.xs_pixel.specs.Points.{Point, origin}
use Rattle.xs_scene.specs.Records.{SceneRecord}
use Rattle.xs_meaning.specs.Expressions.{is_clear, by_offsets}
use Rattle.xs_meaning.specs.Palettes.{Dropped}
use Rattle.xs_step.specs.declared.spot.Spot.{Spot}
use Rattle.xs_step.specs.Readings.{answer_at}
use Rattle.xs_demand.specs.Renamed.{renamed}
use Rattle.xs_stays.specs.declared.found.Found.{Found}
use Rattle.xs_stays.specs.Found.{styles_of, IsFound}
use Rattle.xs_stays.specs.Stays.{Stay, stay_at, stay_or}
use Rattle.xs_build.specs.declared.build.Build.{Build}
use Rattle.xs_build.specs.declared.scope.Scope.{Scope}
use Rattle.xs_build.specs.declared.state.State.{State}
use Rattle.xs_build.specs.Room.{HasRoom}
use Rattle.xs_build.specs.States.{named, spot_expr, state_expr, dropped_in, offset_of, IsSound, MayAsk, StandsIn}

-- under no offset there is as much room
room-still : (s : SceneRecord) (sheet : ℕ) (o : Point) → HasRoom s sheet o → HasRoom s sheet origin
room-still s sheet o room =
    record {
      depth = room.depth;
      ends = room.ends;
      far = room.far;
      near = record { left = omega (arith, ints); right = omega (arith, ints); bottom = omega (arith, ints); top = omega (arith, ints) };
      fits = room.fits;
    }

-- a state under other dropped styles, and under no offset where no drawing stays
abbrev pub in_place : State → Bool → ℕ → State
in_place t drawing k =
    record t { dropped = k; x = cond drawing t.x (pos 0); y = cond drawing t.y (pos 0) }

module _
    (still : (s : SceneRecord) (p : Spot) (f : Dropped) (o q : Point) → (stay_or (stay_at s p)).drawing ≡ false
    → answer_at (by_offsets s) s p f o ≡ answer_at (by_offsets s) s p f q)
    (counting : (s : SceneRecord) (p : Spot) (f g : Dropped) (o : Point)
    → ((style : ℕ) → (stay_or (stay_at s p)).counts style ≡ true → f style ≡ g style)
    → answer_at (by_offsets s) s p f o ≡ answer_at (by_offsets s) s p g o)
    (at : Scope) (left : ℕ) (old new : Build) (t : State) (f : Dropped) (sets : List (List Bool)) (found : Found) (k : ℕ)
    (ask : MayAsk at left t old)
    (seen : is_clear (spot_expr at.scene.now at.names.now t.spot f (offset_of t)) ≡ false)
    (sound : IsSound at.scene.now at.names.now new) (within : k < length new.sets.keys)
    (is : IsFound sets (Some found) (stay_at at.scene.now t.spot))
    (both : dropped_in new.sets.keys k ≡ (λ style. styles_of sets found.styles style && f style)) where
  stays : stay_or (stay_at at.scene.now t.spot) ≡ record { drawing = found.drawing; counts = styles_of sets found.styles }
  stays = ap stay_or (sym is.is)

  counted : (style : ℕ) → (stay_or (stay_at at.scene.now t.spot)).counts style ≡ true → dropped_in new.sets.keys k style ≡ f style
  counted style counts =
      ap (λ (g : Dropped). g style) both
      ∙ ap (λ b. b && f style) (sym (ap (λ (a : Stay). a.counts style) stays) ∙ counts)

  uncounted : (style : ℕ) → (stay_or (stay_at at.scene.now t.spot)).counts style ≡ false → dropped_in new.sets.keys k style ≡ false
  uncounted style counts =
      ap (λ (g : Dropped). g style) both
      ∙ ap (λ b. b && f style) (sym (ap (λ (a : Stay). a.counts style) stays) ∙ counts)

  moved : (drawing : Bool) → found.drawing ≡ drawing
      → answer_at (by_offsets at.scene.now) at.scene.now t.spot f (offset_of (in_place t drawing k))
      ≡ answer_at (by_offsets at.scene.now) at.scene.now t.spot f (offset_of t)
  moved true drawing = refl
  moved false drawing =
      still at.scene.now t.spot f (offset_of (in_place t false k)) (offset_of t) (ap (λ (a : Stay). a.drawing) stays ∙ drawing)

  same : (drawing : Bool) → found.drawing ≡ drawing
      → state_expr at.scene.now at.names.now new.sets.keys (in_place t drawing k)
      ≡ spot_expr at.scene.now at.names.now t.spot f (offset_of t)
  same b drawing =
      ap (renamed (named at.names.now))
      (counting at.scene.now t.spot (dropped_in new.sets.keys k) f (offset_of (in_place t b k)) counted ∙ moved b drawing)

  room : (drawing : Bool) → HasRoom at.scene.now t.spot.sheet (offset_of (in_place t drawing k))
  room true = ask.state.room
  room false = room-still at.scene.now t.spot.sheet (offset_of t) ask.state.room

  offset : (drawing : Bool) → found.drawing ≡ drawing
      → (stay_or (stay_at at.scene.now t.spot)).drawing ≡ false → offset_of (in_place t drawing k) ≡ origin
  offset true drawing none = absurd (false≢true (sym none ∙ ap (λ (a : Stay). a.drawing) stays ∙ drawing))
  offset false drawing none = refl

  stands-by : (drawing : Bool) → found.drawing ≡ drawing
      → StandsIn at left new (spot_expr at.scene.now at.names.now t.spot f (offset_of t)) t.growth (in_place t drawing k)
  stands-by b drawing =
      record {
        may =
            record {
              ask =
                  record {
                    ready = ask.ready;
                    sound = sound;
                    there = ask.there;
                    ends = ask.ends;
                    state = record { room = room b; growth = ask.state.growth; set = within };
                  };
              seen = ap is_clear (same b drawing) ∙ seen;
            };
        expr = same b drawing;
        growth = refl;
        normal = record { offset = offset b drawing; dropped = uncounted };
      }

  pub stands-in : (u : State) → u ≡ in_place t found.drawing k
      → StandsIn at left new (spot_expr at.scene.now at.names.now t.spot f (offset_of t)) t.growth u
  stands-in u same =
      subst (StandsIn at left new (spot_expr at.scene.now at.names.now t.spot f (offset_of t)) t.growth) (sym same)
      (stands-by found.drawing refl)

-- the expression of a spot in which something stays is not clear
pub never-nothing :
    (s : SceneRecord) (names : List ℕ) (p : Spot) (f : Dropped) (o : Point) (clear : Bool)
    → is_clear (spot_expr s names p f o) ≡ false → is_clear (spot_expr s names p f o) ≡ clear → clear ≡ true → ⊥
never-nothing s names p f o clear seen is nothing = false≢true (sym seen ∙ is ∙ nothing)
