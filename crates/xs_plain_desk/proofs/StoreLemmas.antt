-- Events keep the tiles that stand where a state says
use Rattle.std.proofs.Common.{◌≡◌, ◌≢◌, ◌<◌, ◌+◌, ℕ, Bool, false, ◌==◌, Option, Some, None, is_some, List, length, get_or, set, refl, sym, ap, subst, ◌∙◌, inl, inr, arith, add-one, get_or-set_same, get_or-set_other}
use Rattle.std.proofs.lemmas.Bool.{cases_eq, ne_eqb, eq-eqb, cond_both, cond-true, cond-false}
use Rattle.std.proofs.lemmas.List.{length-set}
use Rattle.xs_pixel.specs.Picture.{Pictures}
use Rattle.xs_plan.specs.Record.{PlanRecord}
use Rattle.xs_raster.specs.declared.tile.Tile.{Tile}
use Rattle.xs_core.specs.declared.event.Event.{Event}
use Rattle.xs_core.specs.declared.event.Event.TheVariants.{Finish, Retire, Clear}
use Rattle.xs_core.specs.declared.event.Stepped.{Stepped}
use Rattle.xs_core.specs.declared.event.Stepped.TheVariants.{Done, NotAllowed}
use Rattle.xs_core.specs.declared.state.TileState.{TileState}
use Rattle.xs_core.specs.declared.state.TileState.TheVariants.{Absent, Held, Leaving}
use Rattle.xs_core.specs.declared.state.ReadState.TheVariants.{Served}
use Rattle.xs_core.specs.Counts.{one_if, how_many}
use Rattle.xs_core.specs.States.{World, tile_of, with_read, with_tile, source_at, left}
use Rattle.xs_core.specs.Events.{Allowed, happens, left_by, MayServe}
use Rattle.xs_core.specs.Kept.{CoreRecord, core_in, Tells}
use Rattle.xs_core.specs.Calls.{HoldsTile}
use Rattle.xs_core.proofs.StateLemmas.{get_or-set}
use Rattle.xs_plain_desk.specs.Stored.{is_held, IsStored, retired}

-- one number more
pub how_many-more : (n : ℕ) (p : ℕ → Bool) → how_many (n + 1) p ≡ how_many n p + one_if (p n)
unfolding how_many
how_many-more n p = rw add-one refl

-- what was allowed has happened
pub done :
    (old : CoreRecord) (event : Event) (result : Stepped) (new : CoreRecord) → Tells old event result new
    → Allowed old.plan old.world event → new ≡ core_in old.plan (happens old.plan old.world event)
done old event Done new told allowed = told.1
done old event NotAllowed new told allowed = absurd (told.0 allowed)

-- a tile is put where a state says so
pub stored_put :
    (told : Option Pictures) (p : PlanRecord) (w : World) (tiles : List (Option Tile)) (k : ℕ) (t : Tile) → IsStored told p w tiles
    → k < length p.entries → HoldsTile told p k t → IsStored told p (happens p w (Finish 0 k)) (set tiles k (Some t))
stored_put told p w tiles k t stored there value = record {
  many = length-set tiles k (Some t) ∙ stored.many;
  states_many = length-set w.tiles k Held ∙ stored.states_many;
  few = omega (arith, stored.few, length-set tiles k (Some t));
  values = λ j u. get_or-set (λ (o : Option Tile). o ≡ Some u → HoldsTile told p j u) tiles k j (Some t) None in_tiles
      (λ here is. subst (λ (i : ℕ). HoldsTile told p i u) (sym here) (let same : t ≡ u = cc in subst (λ (v : Tile). HoldsTile told p k v) same value))
      (λ differ. stored.values j u);
  there = λ j. elim (cases_eq j k) [
    | inl here ↦
        ap (λ i. is_some (get_or (set tiles k (Some t)) i None)) here ∙ ap is_some (get_or-set_same tiles k (Some t) None in_tiles)
        ∙ sym (ap (λ i. is_held (get_or (set w.tiles k Held) i Absent)) here ∙ ap is_held (get_or-set_same w.tiles k Held Absent in_states))
    | inr differ ↦
        ap is_some (get_or-set_other tiles k j (Some t) None differ) ∙ stored.there j
        ∙ sym (ap is_held (get_or-set_other w.tiles k j Held Absent differ))
  ];
}
  where
    in_tiles : k < length tiles
    in_tiles = omega (arith, stored.many)

    in_states : k < length w.tiles
    in_states = omega (arith, stored.states_many)

-- the tile of an alias is let go
pub stored_out :
    (told : Option Pictures) (p : PlanRecord) (w : World) (tiles : List (Option Tile)) (k : ℕ) (states : List TileState) → IsStored told p w tiles
    → k < length p.entries → length states ≡ length w.tiles → is_held (get_or states k Absent) ≡ false
    → ((j : ℕ) → j ≢ k → get_or states j Absent ≡ get_or w.tiles j Absent)
    → (v : World) → v.tiles ≡ states → IsStored told p v (set tiles k None)
stored_out told p w tiles k states stored there many gone others v is = record {
  many = length-set tiles k None ∙ stored.many;
  states_many = ap length is ∙ many ∙ stored.states_many;
  few = omega (arith, stored.few, length-set tiles k None);
  values = λ j u. get_or-set (λ (o : Option Tile). o ≡ Some u → HoldsTile told p j u) tiles k j None None in_tiles
      (λ here none. cc) (λ differ. stored.values j u);
  there = λ j. (elim (cases_eq j k) [
    | inl here ↦
        ap (λ i. is_some (get_or (set tiles k None) i None)) here ∙ ap is_some (get_or-set_same tiles k None None in_tiles)
        ∙ sym (ap (λ i. is_held (get_or states i Absent)) here ∙ gone)
    | inr differ ↦
        ap is_some (get_or-set_other tiles k j None None differ) ∙ stored.there j ∙ sym (ap is_held (others j differ))
  ]) ∙ ap (λ l. is_held (get_or l j Absent)) (sym is);
}
  where
    in_tiles : k < length tiles
    in_tiles = omega (arith, stored.many)

-- the same tiles under a state that says the same of them
pub stored_same :
    (told : Option Pictures) (p : PlanRecord) (w : World) (tiles : List (Option Tile)) (v : World) → IsStored told p w tiles
    → v.tiles ≡ w.tiles → IsStored told p v tiles
stored_same told p w tiles v stored same = record {
  many = stored.many;
  states_many = ap length same ∙ stored.states_many;
  few = stored.few;
  values = stored.values;
  there = λ j. stored.there j ∙ ap (λ l. is_held (get_or l j Absent)) (sym same);
}

-- ---- a read is served

-- so many reads are open, whether the tile leaves or not
pub left_by-left : (p : PlanRecord) (w : World) (seat j k : ℕ) → left p (left_by p w seat j) k ≡ left p w k
left_by-left p w seat j k =
    cond_both (left p w j == 0) (with_tile w j (Leaving seat)) w (λ v. left p v k ≡ left p w k) (λ none. refl) (λ some. refl)

pub record Retired (told : Option Pictures) (p : PlanRecord) (w : World) (e reads : ℕ) (new : CoreRecord) (tiles : List (Option Tile)) : Type 0 where
  pub stored : IsStored told new.plan new.world tiles
  pub state : new ≡ core_in p (retired p w e)
  pub left : reads ≡ left p new.world (source_at p e)

-- some are open
pub retired_more :
    (told : Option Pictures) (old : CoreRecord) (tiles : List (Option Tile)) (e src reads : ℕ) (result : Stepped) (new : CoreRecord)
    → IsStored told old.plan old.world tiles → Tells old (Retire 0 e) result new → MayServe old.plan old.world 0 e
    → src ≡ source_at old.plan e → reads ≡ left old.plan new.world src → (reads ≡ 0 → ⊥)
    → Retired told old.plan old.world e reads new tiles
retired_more told old tiles e src reads result new stored told_of may is reads_are some =
    let p = old.plan in
    let w0 = with_read old.world e Served in
    let k = source_at old.plan e in
    let happened = done old (Retire 0 e) result new told_of may in
    let world_is = ap (λ (o : CoreRecord). o.world) happened in
    let now : reads ≡ left p new.world k = reads_are ∙ ap (left p new.world) is in
    let same : left p new.world k ≡ left p (left_by p w0 0 k) k = ap (λ (v : World). left p v k) world_is in
    let inner = ne_eqb (left p w0 k) 0 (λ none. some (now ∙ same ∙ left_by-left p w0 0 k k ∙ none)) in
    let outer = ne_eqb (left p (left_by p w0 0 k) k) 0 (λ none. some (now ∙ same ∙ none)) in
    let stays : left_by p w0 0 k ≡ w0 = cond-false (left p w0 k == 0) (with_tile w0 k (Leaving 0)) w0 inner in
    record {
      stored = subst (λ (o : CoreRecord). IsStored told o.plan o.world tiles) (sym happened)
          (stored_same told p old.world tiles (left_by p w0 0 k) stored (ap (λ (v : World). v.tiles) stays));
      state = happened ∙ ap (core_in p) (sym (cond-false (left p (left_by p w0 0 k) k == 0) (happens p (left_by p w0 0 k) (Clear 0 k))
          (left_by p w0 0 k) outer));
      left = now;
    }

-- the last one
pub retired_last :
    (told : Option Pictures) (old : CoreRecord) (tiles : List (Option Tile)) (e src reads : ℕ) (result : Stepped) (mid : CoreRecord) (then : Stepped)
    (new : CoreRecord)
    → IsStored told old.plan old.world tiles → Tells old (Retire 0 e) result mid → MayServe old.plan old.world 0 e
    → src ≡ source_at old.plan e → src < length old.plan.entries → reads ≡ left old.plan mid.world src → reads ≡ 0
    → Tells mid (Clear 0 src) then new
    → Retired told old.plan old.world e reads new (set tiles src None)
retired_last told old tiles e src reads result mid then new stored told_of may is there reads_are none told_then =
    let p = old.plan in
    let w0 = with_read old.world e Served in
    let k = source_at old.plan e in
    let states = set old.world.tiles k (Leaving 0) in
    let happened = done old (Retire 0 e) result mid told_of may in
    let now : reads ≡ left p mid.world k = reads_are ∙ ap (left p mid.world) is in
    let same : left p mid.world k ≡ left p (left_by p w0 0 k) k = ap (λ (o : CoreRecord). left p o.world k) happened in
    let inner = eq-eqb (left p w0 k) 0 (sym (now ∙ same ∙ left_by-left p w0 0 k k) ∙ none) in
    let outer = eq-eqb (left p (left_by p w0 0 k) k) 0 (sym (now ∙ same) ∙ none) in
    let leaves : left_by p w0 0 k ≡ with_tile w0 k (Leaving 0) = cond-true (left p w0 k == 0) (with_tile w0 k (Leaving 0)) w0 inner in
    let mid_is : mid ≡ core_in p (with_tile w0 k (Leaving 0)) = happened ∙ ap (core_in p) leaves in
    let k_there : k < length p.entries = omega (arith, there, is) in
    let in_states : k < length old.world.tiles = omega (arith, k_there, stored.states_many) in
    let in_left : k < length states = omega (arith, in_states, length-set old.world.tiles k (Leaving 0)) in
    let allowed : tile_of mid.world src ≡ Leaving 0 =
    ap (λ (o : CoreRecord). tile_of o.world src) mid_is ∙ ap (λ i. get_or states i Absent) is
    ∙ get_or-set_same old.world.tiles k (Leaving 0) Absent in_states in
    let new_is : new ≡ core_in p (happens p (with_tile w0 k (Leaving 0)) (Clear 0 k)) =
    done mid (Clear 0 src) then new told_then allowed
    ∙ ap (λ (o : CoreRecord). core_in o.plan (happens o.plan o.world (Clear 0 src))) mid_is
    ∙ ap (λ i. core_in p (happens p (with_tile w0 k (Leaving 0)) (Clear 0 i))) is in
    record {
      stored = subst (λ (o : CoreRecord). IsStored told o.plan o.world (set tiles src None)) (sym new_is)
          (subst (λ (i : ℕ). IsStored told p (with_tile (with_tile w0 k (Leaving 0)) k Absent) (set tiles i None)) (sym is)
          (stored_out told p old.world tiles k (set states k Absent) stored k_there
          (length-set states k Absent ∙ length-set old.world.tiles k (Leaving 0))
          (ap is_held (get_or-set_same states k Absent Absent in_left))
          (λ j differ. get_or-set_other states k j Absent Absent differ ∙ get_or-set_other old.world.tiles k j (Leaving 0) Absent differ)
          (with_tile (with_tile w0 k (Leaving 0)) k Absent) refl));
      state = new_is ∙ ap (core_in p) (sym (cond-true (left p (left_by p w0 0 k) k == 0) (happens p (left_by p w0 0 k) (Clear 0 k)) (left_by p w0 0 k) outer
          ∙ ap (λ (v : World). happens p v (Clear 0 k)) leaves));
      left = now ∙ same ∙ left_by-left p w0 0 k k ∙ sym (ap (λ (o : CoreRecord). left p o.world k) new_is);
    }
