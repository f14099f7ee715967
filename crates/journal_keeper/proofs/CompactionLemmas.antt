-- A new journal beside the one that goes on.
use Rattle.std.proofs.Common.{◌≡◌, ℕ, ◌+◌, ◌≤◌, ◌^◌, List, [], ◌∷◌, ◌++◌, Vec, Global, length, map, replicate, Option, Some, None, IfSome, IfNone, refl, sym, ap, subst, ◌∙◌, append_assoc, arith}
use Rattle.std.proofs.lemmas.List.{append-nil, length-append}
use Rattle.std.specs.List.{AllByRecursion}
use Rattle.sqlite_disk.specs.declared.Disk.{Ghosts}
use Rattle.book_replay.specs.Snapshot.{behind_room}
use Rattle.journal_file.specs.declared.draft.Draft.{Draft}
use Rattle.journal_file.specs.Draft.{draft_key, IsDraft}
use Rattle.journal_frames.specs.Frames.{frame, frames, Fits}
use Rattle.tus_shared.specs.Journal.{CanBeReplayed}
use Rattle.upload_book.specs.Settings.{Settings}
use Rattle.head_board.specs.Event.{Event}
use Rattle.journal_keeper.specs.declared.compaction.Compaction.{Compaction}
use Rattle.journal_keeper.specs.Compaction.{WillHave, WillKeep}
use Rattle.journal_keeper.specs.Keeper.{event_records}
use Rattle.journal_file.specs.Appending.{frames_each}
use Rattle.journal_keeper.proofs.KeeperLemmas.{make-more}

-- the bytes of rooms or frames
abbrev pub items : List (Vec ℕ Global) → List (List ℕ)
items list = map {A = Vec ℕ Global} {B = List ℕ} (λ bytes. bytes.items) list

-- ---- what is written next

-- the first of the lists that are made of others is made of the first of these
pub record FirstOf (f : List ℕ → List ℕ) (whole : List (List ℕ)) (first : List ℕ) (others : List (List ℕ)) : Type 0 where
  pub payload : List ℕ
  pub behind : List (List ℕ)
  pub whole_is : whole ≡ payload ∷ behind
  pub first_is : first ≡ f payload
  pub others_are : others ≡ map f behind

pub first-of : (f : List ℕ → List ℕ) (whole : List (List ℕ)) (first : List ℕ) (others : List (List ℕ)) → first ∷ others ≡ map f whole → FirstOf f whole first others
first-of f [] first others is = absurd (cc (is))
first-of f (payload ∷ behind) first others is = record { payload = payload; behind = behind; whole_is = refl; first_is = cc (is); others_are = cc (is) }

pub none-of : (f : List ℕ → List ℕ) (whole : List (List ℕ)) → map f whole ≡ [] → whole ≡ []
none-of f [] is = refl
none-of f (payload ∷ behind) is = absurd (cc (is))

-- the frame that is made of a room
pub room-closed : (key : ℕ) (payload room : List ℕ) → room ≡ frame key payload → room ≡ frames key (payload ∷ [])
room-closed key payload room is = is ∙ sym (append-nil (frame key payload))

-- ---- what a new journal is to have

module _ {D : Type 0} {g : Ghosts D} where
  -- nothing has changed
  pub still-has : (old new : Compaction D g) (key : ℕ) (records : List (List ℕ)) → WillHave old key records → new.draft ≡ old.draft → new.pieces.items ≡ old.pieces.items → new.since.items ≡ old.since.items → WillHave new key records
  still-has old new key records have draft pieces since = record {
    key_is = ap (λ (d : Draft D g). draft_key d) draft ∙ have.key_is;
    written = have.written;
    pieces = have.pieces;
    since = have.since;
    all = have.all;
    draft = subst (λ (d : Draft D g). IsDraft d have.written) (sym draft) have.draft;
    pieces_are = ap items pieces ∙ have.pieces_are;
    since_are = ap items since ∙ have.since_are;
    fit = have.fit;
  }

  -- what was written is synced
  pub synced-has : (old new : Compaction D g) (key : ℕ) (records : List (List ℕ)) → WillHave old key records → draft_key new.draft ≡ draft_key old.draft
      → ((written : List (List ℕ)) → IsDraft old.draft written → IsDraft new.draft written) → new.pieces.items ≡ old.pieces.items → new.since.items ≡ old.since.items → WillHave new key records
  synced-has old new key records have key_is stays pieces since = record {
    key_is = key_is ∙ have.key_is;
    written = have.written;
    pieces = have.pieces;
    since = have.since;
    all = have.all;
    draft = stays have.written have.draft;
    pieces_are = ap items pieces ∙ have.pieces_are;
    since_are = ap items since ∙ have.since_are;
    fit = have.fit;
  }

  module _ (old : Compaction D g) (key : ℕ) (records : List (List ℕ)) (have : WillHave old key records) where
    -- the record of the piece that is written next
    pub next-piece : (piece : Vec ℕ Global) (others : List (Vec ℕ Global)) → old.pieces.items ≡ piece ∷ others → FirstOf behind_room have.pieces piece.items (items others)
    next-piece piece others is = first-of behind_room have.pieces piece.items (items others) (sym (ap items is) ∙ have.pieces_are)

    -- it is as long as a frame may be
    pub piece-long : (piece : Vec ℕ Global) (others : List (Vec ℕ Global)) → old.pieces.items ≡ piece ∷ others → 24 ≤ length piece.items
    piece-long piece others is =
        let first = next-piece piece others is in
        omega (arith, ap (length {A = ℕ}) first.first_is, length-append (replicate 24 0) first.payload)

    pub piece-short : (piece : Vec ℕ Global) (others : List (Vec ℕ Global)) → old.pieces.items ≡ piece ∷ others → length piece.items ≤ 24 + 2 ^ 32
    piece-short piece others is =
        let first = next-piece piece others is in
        let fits : Fits first.payload = (subst (λ (l : List (List ℕ)). AllByRecursion Fits (l ++ have.since)) first.whole_is have.fit).0 in
        omega (arith, fits.short, ap (length {A = ℕ}) first.first_is, length-append (replicate 24 0) first.payload)

    pub piece-fits : (piece : Vec ℕ Global) (others : List (Vec ℕ Global)) (is : old.pieces.items ≡ piece ∷ others) → Fits (next-piece piece others is).payload
    piece-fits piece others is = (subst (λ (l : List (List ℕ)). AllByRecursion Fits (l ++ have.since)) (next-piece piece others is).whole_is have.fit).0

    -- it was written
    pub wrote-piece : (new : Compaction D g) (payload : List ℕ) (behind : List (List ℕ)) → have.pieces ≡ payload ∷ behind → draft_key new.draft ≡ draft_key old.draft → IsDraft new.draft (have.written ++ payload ∷ [])
        → items new.pieces.items ≡ map behind_room behind → new.since.items ≡ old.since.items → WillHave new key records
    wrote-piece new payload behind is key_is draft pieces since = record {
      key_is = key_is ∙ have.key_is;
      written = have.written ++ payload ∷ [];
      pieces = behind;
      since = have.since;
      all = append_assoc have.written (payload ∷ []) (behind ++ have.since)
          ∙ ap (λ (l : List (List ℕ)). have.written ++ (l ++ have.since)) (sym is)
          ∙ have.all;
      draft = draft;
      pieces_are = pieces;
      since_are = ap items since ∙ have.since_are;
      fit = (subst (λ (l : List (List ℕ)). AllByRecursion Fits (l ++ have.since)) is have.fit).1;
    }

    module _ (no_piece : old.pieces.items ≡ []) where
      all-pieces : have.pieces ≡ []
      all-pieces = none-of behind_room have.pieces (sym have.pieces_are ∙ ap items no_piece)

      since-fit : AllByRecursion Fits have.since
      since-fit = subst (λ (l : List (List ℕ)). AllByRecursion Fits (l ++ have.since)) all-pieces have.fit

      -- the record that is written next, where all pieces are
      pub next-kept : (frame_of : Vec ℕ Global) (others : List (Vec ℕ Global)) → old.since.items ≡ frame_of ∷ others → FirstOf (λ (payload : List ℕ). frames key (payload ∷ [])) have.since frame_of.items (items others)
      next-kept frame_of others is = first-of (λ (payload : List ℕ). frames key (payload ∷ [])) have.since frame_of.items (items others) (sym (ap items is) ∙ have.since_are)

      pub kept-fits : (frame_of : Vec ℕ Global) (others : List (Vec ℕ Global)) (is : old.since.items ≡ frame_of ∷ others) → Fits (next-kept frame_of others is).payload
      kept-fits frame_of others is = (subst (AllByRecursion Fits) (next-kept frame_of others is).whole_is since-fit).0

      pub wrote-kept : (new : Compaction D g) (payload : List ℕ) (behind : List (List ℕ)) → have.since ≡ payload ∷ behind → draft_key new.draft ≡ draft_key old.draft → IsDraft new.draft (have.written ++ payload ∷ [])
          → new.pieces.items ≡ old.pieces.items → items new.since.items ≡ frames_each key behind → WillHave new key records
      wrote-kept new payload behind is key_is draft pieces since = record {
        key_is = key_is ∙ have.key_is;
        written = have.written ++ payload ∷ [];
        pieces = [];
        since = behind;
        all = append_assoc have.written (payload ∷ []) behind
            ∙ ap (λ (l : List (List ℕ)). have.written ++ l) (sym is)
            ∙ ap (λ (l : List (List ℕ)). have.written ++ (l ++ have.since)) (sym all-pieces)
            ∙ have.all;
        draft = draft;
        pieces_are = ap items (pieces ∙ no_piece);
        since_are = since;
        fit = (subst (AllByRecursion Fits) is since-fit).1;
      }

      -- all is written
      pub has-all : old.since.items ≡ [] → IsDraft old.draft records
      has-all none =
          let no_since : have.since ≡ [] = none-of (λ (payload : List ℕ). frames key (payload ∷ [])) have.since (sym have.since_are ∙ ap items none) in
          subst (IsDraft old.draft) (sym (append-nil have.written) ∙ ap (λ (l : List (List ℕ)). have.written ++ l) (sym (ap (λ (l : List (List ℕ)). l ++ have.since) all-pieces ∙ no_since)) ∙ have.all) have.draft

  -- the same under a key that is the same
  pub will-keep-under : (s : Settings) (old new : ℕ) (kept : List Event) (c : Option (Compaction D g)) → new ≡ old → IfSome c (λ (it : Compaction D g). WillKeep s it old kept) → IfSome c (λ (it : Compaction D g). WillKeep s it new kept)
  will-keep-under s old new kept c is keeps = subst (λ (key : ℕ). IfSome c (λ (it : Compaction D g). WillKeep s it key kept)) (sym is) keeps

  -- one that is to have the records of more events is to keep these
  pub will-keep-more : (s : Settings) (key : ℕ) (kept more : List Event) (old new : Option (Compaction D g)) → CanBeReplayed s kept more
      → IfSome old (λ (c : Compaction D g). WillKeep s c key kept)
      → ((records : List (List ℕ)) → IfSome old (λ (c : Compaction D g). WillHave c key records) → IfSome new (λ (c : Compaction D g). WillHave c key (records ++ event_records more)))
      → IfNone old (new ≡ None)
      → IfSome new (λ (c : Compaction D g). WillKeep s c key (kept ++ more))
  will-keep-more s key kept more None new again keeps have none = subst (λ (o : Option (Compaction D g)). IfSome o (λ (c : Compaction D g). WillKeep s c key (kept ++ more))) (sym none) tt
  will-keep-more s key kept more (Some c) None again keeps have none = tt
  will-keep-more s key kept more (Some c) (Some next) again keeps have none = record {
    records = keeps.records ++ event_records more;
    have = have keeps.records keeps.have;
    make = make-more s kept more keeps.records keeps.make again;
  }
