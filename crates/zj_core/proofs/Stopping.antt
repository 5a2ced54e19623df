-- A handle that is stopped, and a call that is begun and stopped at once.
use Rattle.std.proofs.Common.{◌≡◌, ◌≢◌, ◌⊎◌, inl, inr, ℕ, ◌+◌, ◌<◌, ◌≤◌, ◌&&◌, Bool, true, false, true≢false, T, cond, is_some, List, [], ◌∷◌, ◌++◌, length, map, Option, Some, None, IfSome, IsSome, refl, sym, ap, ◌∙◌, subst, arith}
use Rattle.std.specs.List.{filter_map}
use Rattle.std.specs.Option.{option_map, option_or}
use Rattle.std.specs.Ordering.{nat_cmp, eq_by_cmp, is_lt}
use Rattle.std.specs.Prelude.{is_none}
use Rattle.std.specs.FinMap.Entries.{below_all}
use Rattle.std.proofs.lemmas.Bool.Decides.{nat_tests}
use Rattle.std.proofs.lemmas.List.Sums.{count_by-le-length}
use Rattle.std.proofs.lemmas.Option.{slice_get_within}
use Rattle.zj_turns.proofs.Maps.{tied}
use Rattle.std.specs.FinMap as finmap
use Rattle.zj_block.specs.Lists.{Entries, content_under}
use Rattle.zj_block.specs.Sizes.{Numbers}
use Rattle.zj_area.specs.Journal.{AreaView}
use Rattle.zj_history.specs.Operation.{Contents, FoundBlock, Operation}
use Rattle.zj_history.specs.Transactions.{writers_found}
use Rattle.zj_tree.specs.declared.call.Call.{Call}
use Rattle.zj_tree.specs.declared.call.Reply.{Reply}
use Rattle.zj_tree.specs.Apply.{apply}
use Rattle.zj_layout.specs.Shows.{limits_of}
use Rattle.zj_dirs.specs.Possible.{Always}
use Rattle.zj_inode.specs.Footprint.{Foot}
use Rattle.zj_inode.specs.Performs.{Performs}
use Rattle.zj_inode.specs.Run.{contents_found}
use Rattle.zj_tx.specs.Frozen.{image_in}
use Rattle.zj_tx.specs.Laws.{KeepsOneMore}
use Rattle.zj_tx.specs.Record.{Ascends}
use Rattle.zj_block.specs.declared.sizes.TheConstants.{MAX_RECORD_BLOCKS}
use Rattle.zj_tx.specs.Running.{HasNoted, IsAdded, IsRoomCause, Transaction, new_count, stamped}
use Rattle.zj_tx.specs.declared.fault.RoomFault.{RoomFault}
use Rattle.zj_tx.specs.declared.fault.RoomFault.TheVariants as rooms
use Rattle.zj_tx.specs.declared.part.Part.{Part}
use Rattle.zj_turns.specs.Views.{Has}
use Rattle.zj_turns.specs.Passes.{CacheParameters, PassState, holds, mine, now_knowing}
use Rattle.zj_core.specs.declared.fault.BeginFault.{BeginFault}
use Rattle.zj_core.specs.declared.fault.BeginFault.TheVariants as begins
use Rattle.zj_core.specs.declared.fault.CallFault.{CallFault}
use Rattle.zj_core.specs.declared.fault.StopFault.{StopFault}
use Rattle.zj_core.specs.declared.fault.StopFault.TheVariants as stops
use Rattle.zj_core.specs.declared.fault.TakeFault.{TakeFault}
use Rattle.zj_core.specs.declared.fault.TakeFault.TheVariants as takes
use Rattle.zj_core.specs.declared.steps.Handle.{Handle}
use Rattle.zj_core.specs.Core.{CoreState, IsBeginCause, IsCallCause, IsCore, IsStopCause, IsTakeCause, Joins, MayBegin, Performed}
use Rattle.zj_core.specs.Handle.{HasTaken, IsBegun, IsPartOfSome, TakesFor, entries_held, root_block}
use Rattle.zj_core.specs.Steps.{Draws, KeepsTree, TakesMore, emptied, roomless_by, stopped_by, unbegun_by, unstopped_by, with_operation}
use Rattle.zj_core.proofs.Finished.{found_entries, taken_held}
use Rattle.zj_core.proofs.Knowing.{knowing_again, knowing_same, mine_is}
use Rattle.zj_core.proofs.Needing.{held_more, held_under, performs_same, root_some}
use Rattle.zj_core.proofs.Resting.{core_rests}
use Rattle.zj_core.proofs.Running.{shown}

-- ---- stopping

-- new contents that perform a call leave a tree
pub keeps_tree : (s sizes : Numbers) (found : Entries) (written : Contents) (call : Call) (reply : Reply) → s ≡ sizes → Performs sizes found written call reply → KeepsTree s found written
keeps_tree s sizes found written call reply is done = subst (λ (x : Numbers). KeepsTree x found written) (sym is) (λ state tree possible. ((apply (limits_of sizes) call tree).1, (done.each state tree possible).leaves))

-- ---- blocks of the image

-- blocks that were taken are the image's
pub taken_within : (sizes : Numbers) (found : Entries) → IsPartOfSome sizes found → (b : ℕ) → IsSome (content_under found b) → b < sizes.blocks
taken_within sizes found some b there = by (content_under found b) refl there
  where
    by : (o : Option (List ℕ)) → content_under found b ≡ o → IsSome o → b < sizes.blocks
    by None e none = absurd (true≢false (sym none))
    by (Some c) e _ = subst (λ n. b < n) some.possible.shows.shape.many (slice_get_within some.state b c (some.possible.agrees b c e))

begun_part : (sizes : Numbers) (found : Entries) → IsBegun sizes found → content_under found (root_block sizes) ≢ None → IsPartOfSome sizes found
begun_part sizes found (inl none) root = absurd (root (ap (λ (f : Entries). content_under f (root_block sizes)) none))
begun_part sizes found (inr begun) root = begun.1

T_first : (a b : Bool) → T (a && b) → T a
T_first true b h = tt
T_first false b h = h

T_second : (a b : Bool) → T (a && b) → T b
T_second true b h = h
T_second false b h = absurd h

less_of : (a b : ℕ) → T (is_lt (nat_cmp a b)) → a < b
less_of a b h = grind (arith, nat_tests, h)

here : (e : ℕ × List ℕ) (es : Entries) → IsSome (finmap.find nat_cmp e.0 (e ∷ es))
here e es = ap (λ t. is_some (cond t (Some e.1) (finmap.find nat_cmp e.0 es))) (tied e.0 e.0 refl)

further : (e : ℕ × List ℕ) (es : Entries) (b : ℕ) → IsSome (finmap.find nat_cmp b es) → IsSome (finmap.find nat_cmp b (e ∷ es))
further e es b there = by (eq_by_cmp nat_cmp b e.0)
  where
    by : (t : Bool) → IsSome (cond t (Some e.1) (finmap.find nat_cmp b es))
    by true = refl
    by false = there

-- keys in order between two numbers are as many as are between these
few_above : (k high : ℕ) (es : Entries) → T (finmap.is_sorted nat_cmp es) → T (below_all nat_cmp k es) → ((b : ℕ) → IsSome (finmap.find nat_cmp b es) → b < high) → k < high → length es + k < high
few_above k high [] sorted above below lt = omega (arith, lt)
few_above k high (e ∷ es) sorted above below lt =
    let first = less_of k e.0 (T_first (is_lt (nat_cmp k e.0)) (below_all nat_cmp k es) above) in
    let rest = few_above e.0 high es (T_second (below_all nat_cmp e.0 es) (finmap.is_sorted nat_cmp es) sorted) (T_first (below_all nat_cmp e.0 es) (finmap.is_sorted nat_cmp es) sorted)
    (λ b there. below b (further e es b there)) (below e.0 (here e es)) in
    omega (arith, first, rest)

few_below : (high : ℕ) (es : Entries) → T (finmap.is_sorted nat_cmp es) → ((b : ℕ) → IsSome (finmap.find nat_cmp b es) → b < high) → length es ≤ high
few_below high [] sorted below = omega arith
few_below high (e ∷ es) sorted below =
    let rest = few_above e.0 high es (T_second (below_all nat_cmp e.0 es) (finmap.is_sorted nat_cmp es) sorted) (T_first (below_all nat_cmp e.0 es) (finmap.is_sorted nat_cmp es) sorted)
    (λ b there. below b (further e es b there)) (below e.0 (here e es)) in
    omega (arith, rest)

-- contents of blocks of the image are no more than these, and so are the new ones among them
pub few_new : (parts : List Part) (written : Contents) (blocks : ℕ) → ((b : ℕ) → IsSome (finmap.get written b) → b < blocks) → new_count parts written ≤ blocks
few_new parts written blocks below =
    let all = few_below blocks (finmap.entries written) (finmap.entries_sorted written) (λ b there. below b (subst IsSome (sym (finmap.get-entries written b)) there)) in
    let some = count_by-le-length (λ (e : ℕ × List ℕ). is_none (image_in parts e.0)) (finmap.entries written) in
    omega (arith, all, some)

-- ---- what a handle found

module _ (cache : CacheParameters) (p m q : PassState) (sizes : Numbers) (found : Entries) {follows : List ℕ} (written : Contents) (call : Call) (reply : Reply) (number ticket : ℕ)
    (more : TakesMore cache p m) (foot : TakesFor sizes p m call) (has : HasTaken sizes m found follows) (root : content_under found (root_block sizes) ≢ None) (performs : Performs sizes found written call reply) (draws : Draws cache m q written number ticket) where
  draws_pass : q ≡ now_knowing p (with_operation (mine p) draws.operation)
  draws_pass =
      draws.pass
      ∙ ap (λ (x : PassState). now_knowing x (with_operation (mine m) draws.operation)) more.only
      ∙ knowing_again p (mine m) (with_operation (mine m) draws.operation)
      ∙ ap (λ (l : List Operation). now_knowing p (record { operations = l ++ draws.operation ∷ []; held = finmap.empty; drawn = false; ticket = draws.operation.ticket; number = draws.operation.number })) more.more.operations

  found_is : contents_found draws.operation ≡ entries_held (mine m)
  found_is = ap (map {B = ℕ × List ℕ} (λ (f : FoundBlock). (f.block, f.content))) draws.found ∙ found_entries (finmap.entries (mine m).held)

  found_under : (b : ℕ) → content_under (contents_found draws.operation) b ≡ content_under found b
  found_under b = ap (λ l. content_under l b) found_is ∙ held_under (mine m) b ∙ sym (has.same b)

  found_held : (b : ℕ) → IsSome (content_under (contents_found draws.operation) b) → holds m b ≡ true
  found_held b some = taken_held sizes m found has b (λ none. true≢false (sym some ∙ ap is_some (found_under b ∙ none)))

  pub performed : Performed cache sizes number p q call (record { ticket = ticket; reply = reply })
  performed = record {
    operation = draws.operation;
    ticket = draws.ticket_is;
    core = draws.core_is ∙ ap (λ (x : PassState). x.core) more.only;
    number_is = draws.number_is;
    kept = λ b content e. ap (λ l. content_under l b) found_is ∙ held_under (mine m) b ∙ held_more (mine p) (mine m) more.more b content e;
    root = subst IsSome (sym (found_under (root_block sizes))) (root_some sizes found call root);
    free = λ b some. more.free b (found_held b some);
    foot = λ b some before. subst (λ (l : Entries). Always sizes l (λ image. Foot sizes image call b)) (sym found_is) (foot b (found_held b some) before);
    performs = subst (λ (w : Contents). Performs sizes (contents_found draws.operation) w call reply) (sym draws.written_is) (performs_same sizes found (contents_found draws.operation) found_under written call reply performs);
    pass = draws_pass;
    knows = draws.knows;
  }

  module _ (old new : Transaction) (numbered : number ≡ old.number) (law : KeepsOneMore) (added : IsAdded old new ticket written follows) (ascending : Ascends 0 new.parts) (blocks : length new.parts ≤ MAX_RECORD_BLOCKS) where
    noted : HasNoted follows (writers_found draws.operation)
    noted = subst (λ (fs : List FoundBlock). HasNoted follows (filter_map (λ (f : FoundBlock). f.writer) fs)) (sym draws.found) has.noted

    added_as : IsAdded old new draws.operation.ticket draws.operation.written follows
    added_as = subst (λ (x : ℕ × Contents). IsAdded old new x.0 x.1 follows) (λ i. (sym draws.ticket_is i, sym draws.written_is i)) added

    within : (block : ℕ) → IsSome (image_in new.parts block) → IsSome (image_in old.parts block) ⊎ (block < sizes.blocks)
    within block some = by (finmap.get written block) (performs.taken block) (subst IsSome (added.images block) some)
      where
        by : (o : Option (List ℕ)) → (IsSome o → IsSome (content_under found block)) → IsSome (option_or (stamped (ticket + 1) o) (image_in old.parts block)) → IsSome (image_in old.parts block) ⊎ (block < sizes.blocks)
        by None there some = inl some
        by (Some c) there some = inr (taken_within sizes found (begun_part sizes found has.begun root) block (there refl))

    pub joined : Joins sizes old new p q
    joined = record {
      operation = draws.operation;
      entered = ap (λ (k : Rattle.zj_turns.specs.Views.Known). k.operations) (mine_is p q (with_operation (mine p) draws.operation) draws_pass);
      core = draws.core_is ∙ ap (λ (x : PassState). x.core) more.only;
      number = draws.number_is ∙ numbered;
      keeps = λ operations keeps. law operations draws.operation old new follows keeps noted added_as;
      ascending = ascending;
      blocks = blocks;
      within = within;
    }

-- ---- what it is kept by

module _ (cache : CacheParameters) (sizes : Numbers) (m : PassState) (running : Transaction) (call : Call) where
  pub take_stops : (fault : TakeFault) → IsTakeCause cache sizes m call fault → IsStopCause cache sizes m running call (stopped_by fault)
  take_stops (takes.Busy block holder) cause = cause
  take_stops takes.NoMemory cause = tt

  pub room_stops : (found : Entries) {follows : List ℕ} (written : Contents) (reply : Reply) → HasTaken sizes m found follows → content_under found (root_block sizes) ≢ None → Performs sizes found written call reply
      → (fault : RoomFault) → IsRoomCause running written fault → IsStopCause cache sizes m running call (roomless_by fault)
  room_stops found written reply has root performs (rooms.TxFull have more) cause = record {
    root = taken_held sizes m found has (root_block sizes) root;
    reply = reply;
    written = written;
    performs = performs_same sizes found (entries_held (mine m)) (λ b. held_under (mine m) b ∙ sym (has.same b)) written call reply performs;
    read = has.read;
    have_is = cause.0;
    more_is = more_is;
    past = let rest = cause.2 in omega (arith, rest, more_is);
  }
    where
      part : IsPartOfSome sizes found
      part = begun_part sizes found has.begun root

      few : new_count running.parts written ≤ sizes.blocks
      few = few_new running.parts written sizes.blocks (λ b some. taken_within sizes found part b (performs.taken b some))

      more_is : more ≡ new_count running.parts written
      more_is = let least = cause.1 in let most = part.possible.shows.shape.limits.most_blocks in omega (arith, least, most, few)
  room_stops found written reply has root performs rooms.NoMemory cause = tt

-- what is so of the handle that is open is so of the call that was begun
pub of_begun : {D : Type 0} (P : CoreState D → Call → Type 0) (p : PassState) (area : AreaView D) (sizes : Numbers) (handle : Option Handle) (running : Transaction) (h : Handle) (c : CoreState D)
    → shown p area sizes handle running ≡ c → Some h ≡ handle → P (shown p area sizes (Some h) running) h.call → IfSome c.begun (P c)
of_begun {D} P p area sizes handle running h c is opened so =
    subst (λ (x : CoreState D). IfSome x.begun (P x)) is
    (subst (λ (o : Option Handle). IfSome (option_map (λ (h : Handle). h.call) o) (P (shown p area sizes o running))) opened so)

-- ---- a call

pub begin_keeps : {D : Type 0} (cache : CacheParameters) (c : CoreState D) (call : Call) (fault : BeginFault) → IsBeginCause c fault → IsCallCause cache c call (unbegun_by fault)
begin_keeps cache c call (begins.Failed core) cause = cause
begin_keeps cache c call (begins.Spent drawn) cause = cause
begin_keeps cache c call (begins.JournalFull need free) cause = cause
begin_keeps cache c call begins.NoMemory cause = tt

stops_call : {D : Type 0} (cache : CacheParameters) (c : CoreState D) (m : PassState) → TakesMore cache c.pass m → (call : Call) (fault : StopFault) → MayBegin c → TakesFor c.sizes c.pass m call → IsStopCause cache c.sizes m c.running call fault → IsCallCause cache c call (unstopped_by fault)
stops_call cache c m more call (stops.Busy block holder) may foot cause = record { may = may; middle = m; taken = more; foot = foot; cause = cause }
stops_call cache c m more call (stops.TxFull have room) may foot cause = record { may = may; middle = m; taken = more; foot = foot; cause = cause }
stops_call cache c m more call stops.NoMemory may foot cause = tt

undone : (cache : CacheParameters) (p m : PassState) → TakesMore cache p m → Has p.view p.core → (mine p).held ≡ finmap.empty → (mine p).drawn ≡ false → now_knowing m (emptied (mine m)) ≡ p
undone cache p m more has empty clear =
    ap (λ (x : PassState). now_knowing x (emptied (mine m))) more.only
    ∙ knowing_again p (mine m) (emptied (mine m))
    ∙ ap (now_knowing p) emptied_is
    ∙ knowing_same p has
  where
    emptied_is : emptied (mine m) ≡ mine p
    emptied_is = λ i. record { operations = more.more.operations i; held = sym empty i; drawn = sym clear i; ticket = more.more.ticket i; number = more.more.number i }

-- the core before the call, once it has begun, as it could not be stopped, and as its handle was dropped
module _ {D : Type 0} (cache : CacheParameters) (p : PassState) (area : AreaView D) (sizes : Numbers) (handle : Option Handle) (running : Transaction) (keeps : IsCore (shown p area sizes handle running) handle) (before begun after : CoreState D)
    (is : shown p area sizes handle running ≡ before) (idle : before.begun ≡ None) (call : Call)
    (begins : begun ≡ record { pass = before.pass; area = before.area; sizes = before.sizes; begun = Some call; running = before.running }) (more : TakesMore cache begun.pass after.pass) where
  more_before : TakesMore cache before.pass after.pass
  more_before = subst (λ (x : CoreState D). TakesMore cache x.pass after.pass) begins more

  held_none : (mine before.pass).held ≡ finmap.empty
  held_none = (core_rests p area sizes handle running keeps before is).idle idle

  pub call_cause : (fault : StopFault) (refused : CallFault) → MayBegin before → IfSome begun.begun (TakesFor begun.sizes begun.pass after.pass) → IfSome begun.begun (λ asked. IsStopCause cache begun.sizes after.pass begun.running asked fault) → refused ≡ unstopped_by fault → IsCallCause cache before call refused
  call_cause fault refused may foot cause because = subst (IsCallCause cache before call) (sym because)
      (stops_call cache before after.pass more_before call fault may
      (subst (λ (x : CoreState D). IfSome x.begun (TakesFor x.sizes x.pass after.pass)) begins foot)
      (subst (λ (x : CoreState D). IfSome x.begun (λ asked. IsStopCause cache x.sizes after.pass x.running asked fault)) begins cause))

  pub call_undone : (dropped : CoreState D) → after ≡ record { pass = after.pass; area = begun.area; sizes = begun.sizes; begun = begun.begun; running = begun.running }
      → dropped ≡ record { pass = now_knowing after.pass (emptied (mine after.pass)); area = after.area; sizes = after.sizes; begun = None; running = after.running } → dropped ≡ before
  call_undone dropped stays drops =
      drops
      ∙ ap (λ (x : CoreState D). record { pass = now_knowing after.pass (emptied (mine after.pass)); area = x.area; sizes = x.sizes; begun = None; running = x.running })
      (stays ∙ ap (λ (x : CoreState D). record { pass = after.pass; area = x.area; sizes = x.sizes; begun = x.begun; running = x.running }) begins)
      ∙ (λ i. record { pass = undone cache before.pass after.pass more_before has held_none (core_rests p area sizes handle running keeps before is).clear i; area = before.area; sizes = before.sizes; begun = sym idle i; running = before.running })
    where
      has : Has before.pass.view before.pass.core
      has = subst (λ (x : CoreState D). Has x.pass.view x.pass.core) is keeps.has.known
