use Rattle.std.proofs.Common.{◌≡◌, ℕ, ◌+◌, ◌-◌, ◌<◌, ◌≤◌, Bool, true, false, List, All, ap, get_or, length, vec_capacity, vec_len, sym, subst, ◌∙◌, take_all, refl, arith}
use Rattle.std.proofs.lemmas.List.Elements.{All-get_or}
use Rattle.std.proofs.lemmas.List.{drop_all}
use Rattle.block_pool.specs.Blocks.{free_in}
use Rattle.block_bodies.specs.Changes.{GivesBack}
use Rattle.block_bodies.proofs.EachBlock.{GivesBack-none}
use Rattle.upload_book.specs.inside.Swept.{FindsRoom, IsBoxed}
use Rattle.upload_book.specs.inside.Texts.{boxes_in, is_boxed}
use Rattle.upload_book.specs.Stored.{StoredUpload}
use Rattle.upload_book.specs.TenantBook.{Entry}
use Rattle.upload_book.proofs.Store.SweptLemmas.{GivesBack-last, IsHeld-last, IsPopped-last, placed_by, popped-given}
use Rattle.upload_book.proofs.stored_tenant.end_from.Goals as goal

pub loop-uploads-init : goal.loop-uploads-init
loop-uploads-init c =
    let entries = c.args.uploads.now.items in
    record {
      from = c.requires.place;
      stands = sym (take_all (length entries) entries (omega arith));
      within = omega arith;
      gives = subst (λ list. GivesBack c.args.pool.now (placed_by list) (free_in c.args.pool.now - free_in c.args.pool.now) c.args.pool.now) (sym (drop_all (length entries) entries (omega arith))) (GivesBack-none c.args.pool.now);
      capacity = refl;
      boxes = omega arith;
      each = λ boxed. refl;
      spare_room = refl;
    }

pub give_back-texts-requires : goal.give_back-texts-requires
give_back-texts-requires c =
    let entries = c.args.uploads.now.items in
    let front = c.pop.new.self.items in
    let e = c.unwrap-upload.result in
    let so_far = c.loop-uploads.invariant in
    let popped = IsPopped-last entries c.loop-uploads.uploads.items front c.pop.result e so_far.stands so_far.within c.pop.ensures.items c.unwrap-upload.ensures in
    IsHeld-last entries (length front) e popped.within popped.read c.args.pool.now c.loop-uploads.pool c.args.place _
    (omega (arith, popped.long, c.loop-uploads-test.true, c.len.ensures, c.loop-uploads.uploads.ok.0))
    c.requires.held (popped-given entries c.loop-uploads.uploads.items front c.args.pool.now c.loop-uploads.pool popped.long so_far.gives)

-- a box at most is given back
boxes_in-most : (boxed : Bool) → boxes_in boxed ≤ 1
boxes_in-most true = omega arith
boxes_in-most false = omega arith

-- what holds of each holds of the one that was taken
popped-is : (P : Entry StoredUpload → Type 0) (entries : List (Entry StoredUpload)) (place : ℕ) (e : Entry StoredUpload) → place < length entries → e ≡ get_or entries place e → All P entries → P e
popped-is P entries place e within read all = subst P (sym read) (All-get_or P entries place e within all)

pub give_back-requires : goal.give_back-requires
give_back-requires c =
    let entries = c.args.uploads.now.items in
    let front = c.pop.new.self.items in
    let e = c.unwrap-upload.result in
    let so_far = c.loop-uploads.invariant in
    let popped = IsPopped-last entries c.loop-uploads.uploads.items front c.pop.result e so_far.stands so_far.within c.pop.ensures.items c.unwrap-upload.ensures in
    λ boxed.
    let room = popped-is (FindsRoom (vec_len c.args.uploads.now + vec_len c.args.spare.now) (vec_capacity c.args.spare.now)) entries (length front) e popped.within popped.read c.requires.room (sym c.give_back-texts.ensures.kind ∙ boxed) in
    omega (arith, room, so_far.boxes, so_far.spare_room, popped.long, c.loop-uploads.uploads.ok.0)

pub loop-uploads-preserved : goal.loop-uploads-preserved
loop-uploads-preserved c =
    let entries = c.args.uploads.now.items in
    let front = c.pop.new.self.items in
    let e = c.unwrap-upload.result in
    let so_far = c.loop-uploads.invariant in
    let popped = IsPopped-last entries c.loop-uploads.uploads.items front c.pop.result e so_far.stands so_far.within c.pop.ensures.items c.unwrap-upload.ensures in
    record {
      from = omega (arith, popped.long, c.loop-uploads-test.true, c.len.ensures, c.loop-uploads.uploads.ok.0);
      stands = popped.stands;
      within = omega (arith, popped.within);
      gives =
          GivesBack-last entries (length front) e popped.within popped.read c.args.pool.now c.loop-uploads.pool c.give_back-texts.new.pool _ c.give_back-texts.result.0
          (popped-given entries c.loop-uploads.uploads.items front c.args.pool.now c.loop-uploads.pool popped.long so_far.gives) c.give_back-texts.ensures.blocks;
      capacity = c.pop.ensures.capacity ∙ so_far.capacity;
      boxes = omega (arith, so_far.boxes, c.give_back.ensures.spare, boxes_in-most (is_boxed c.give_back-texts.result.1), popped.long, c.loop-uploads.uploads.ok.0, c.pop.new.self.ok.0);
      each = λ boxed.
          let one : boxes_in (is_boxed c.give_back-texts.result.1) ≡ 1 = ap boxes_in (c.give_back-texts.ensures.kind ∙ popped-is IsBoxed entries (length front) e popped.within popped.read boxed) in
          omega (arith, so_far.each boxed, c.give_back.ensures.spare, one, popped.long, c.loop-uploads.uploads.ok.0, c.pop.new.self.ok.0);
      spare_room = c.give_back.ensures.capacity ∙ so_far.spare_room;
    }
