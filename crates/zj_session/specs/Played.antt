-- What lines and their answers tell of the cores, and what each answer says of the history so far.
use Rattle.std.specs.Prelude.{◌≡◌, ◌≢◌, ◌⊎◌, ℕ, ◌+◌, ◌==◌, ◌||◌, Bool, true, false, List, [], ◌∷◌, ◌++◌, length, map, filter, fold, take, Option, Some, None, IfSome, IsSome, IsSomeAnd, slice_get}
use Rattle.std.specs.List.{list_any}
use Rattle.std.specs.Option.{option_map}
use Rattle.zj_block.specs.Lists.{Entries, content_under}
use Rattle.zj_block.specs.Sizes.{Numbers}
use Rattle.zj_history.specs.Operation.{Operation}
use Rattle.zj_history.specs.State.{BlockState, after}
use Rattle.zj_history.specs.Legal.{IsLegal}
use Rattle.zj_tree.specs.declared.call.Call.{Call}
use Rattle.zj_tree.specs.declared.call.Reply.{Reply}
use Rattle.zj_tree.specs.Tree.{FileTree}
use Rattle.zj_layout.specs.Shows.{limits_of}
use Rattle.zj_dirs.specs.Possible.{Always}
use Rattle.zj_inode.specs.Footprint.{Foot}
use Rattle.zj_inode.specs.Performs.{Performs}
use Rattle.zj_inode.specs.Run.{contents_found, replies_from}
use Rattle.zj_script.specs.declared.line.Act.{Act}
use Rattle.zj_script.specs.declared.line.Act.TheVariants as acts
use Rattle.zj_script.specs.declared.line.Line.{Line}
use Rattle.zj_script.specs.declared.answer.Form.{Form}
use Rattle.zj_script.specs.declared.answer.Form.TheVariants as forms
use Rattle.zj_script.specs.declared.answer.SyncForm.TheVariants as syncs
use Rattle.zj_dev.specs.declared.device.Device.TheVariants as devices
use Rattle.zj_turns.specs.CacheHistory.{content}
use Rattle.zj_core.specs.Handle.{IsDue, IsPerformed, root_block}

-- a line, and what its answer says
abbrev pub Played : Type 0
Played = Line × Form

-- a handle that is open: its call, the blocks that it has taken one by one, in order, and whether a stop of it found no room, in which it may
-- have taken others
pub record OpenHandle : Type 0 where
  pub call : Call
  pub taken : List ℕ
  pub stopped : Bool

-- the handle that is open behind a line of its core: a begin opens one, and it ends with a ticket or where it is dropped
abbrev pub handle_behind : Option OpenHandle → Act → Form → Option OpenHandle
handle_behind handle (acts.Begin call) forms.Begun = Some (record { call = call; taken = []; stopped = false })
handle_behind (Some h) acts.Take (forms.Took block) = Some (record { call = h.call; taken = h.taken ++ block ∷ []; stopped = h.stopped })
handle_behind handle acts.Stop (forms.Drew ticket reply) = None
handle_behind (Some h) acts.Stop (forms.TxFull have more) = Some (record { call = h.call; taken = h.taken; stopped = true })
handle_behind handle acts.Drop forms.Dropped = None
handle_behind handle act form = handle

-- a line of a core
abbrev pub is_on : ℕ → Option ℕ → Bool
is_on core None = false
is_on core (Some c) = c == core

-- the handle that is open on a core after lines with their answers, if one is
abbrev pub handle_after : List Played → ℕ → Option OpenHandle
handle_after played core = fold (λ handle p. handle_behind handle p.0.act p.1) None (filter (λ p. is_on core p.0.core) played)

-- the blocks that it has taken
abbrev pub blocks_of : Option OpenHandle → List ℕ
blocks_of None = []
blocks_of (Some h) = h.taken

-- a block is one of some
abbrev pub is_in : ℕ → List ℕ → Bool
is_in b blocks = list_any (λ taken. taken == b) blocks

-- whether it has taken a block one by one, whether a stop of it found no room, and whether it has the root's block
abbrev pub has_block : Option OpenHandle → ℕ → Bool
has_block handle b = is_in b (blocks_of handle)

abbrev pub is_stopped : Option OpenHandle → Bool
is_stopped None = false
is_stopped (Some h) = h.stopped

abbrev pub has_root : Numbers → Option OpenHandle → Bool
has_root sizes handle = is_stopped handle || has_block handle (root_block sizes)

-- These are the blocks that a handle has, where blocks were found with these contents: those that it has taken one by one, in order; and where
-- a stop of it found no room, others beside them, the root's at least, which its call may take.
pub record AreBlocksOf (sizes : Numbers) (found : Entries) (handle : Option OpenHandle) (blocks : List ℕ) : Type 0 where
  pub only : is_stopped handle ≡ false → blocks ≡ blocks_of handle
  pub taken : (b : ℕ) → has_block handle b ≡ true → is_in b blocks ≡ true
  pub root : is_stopped handle ≡ true → is_in (root_block sizes) blocks ≡ true
  pub foot : (b : ℕ) → is_in b blocks ≡ true → has_block handle b ≡ false → IfSome handle (λ h. Always sizes found (λ image. Foot sizes image h.call b))

-- an answer that has a ticket
abbrev pub has_ticket : Form → Bool
has_ticket (forms.Drew ticket reply) = true
has_ticket form = false

-- how many answers have a ticket
abbrev pub tickets_in : List Played → ℕ
tickets_in played = length (filter (λ p. has_ticket p.1) played)

-- the contents that blocks have in a state
abbrev pub contents_in : BlockState → List ℕ → Entries
contents_in state blocks = map (λ b. (b, content state b)) blocks

-- an act that doesn't suit a core, by the handle that is open there: a call, a begin or a commit where one is, and a take, stop or drop
-- where none is
abbrev pub is_out_of_order : Option OpenHandle → Act → Bool
is_out_of_order (Some h) (acts.Call call) = true
is_out_of_order (Some h) (acts.Begin call) = true
is_out_of_order (Some h) acts.Commit = true
is_out_of_order None acts.Take = true
is_out_of_order None acts.Stop = true
is_out_of_order None acts.Drop = true
is_out_of_order handle act = false

-- an act that takes blocks
abbrev pub takes_blocks : Act → Bool
takes_blocks (acts.Call call) = true
takes_blocks acts.Take = true
takes_blocks acts.Stop = true
takes_blocks act = false

-- an act that begins a handle
abbrev pub begins_handle : Act → Bool
begins_handle (acts.Call call) = true
begins_handle (acts.Begin call) = true
begins_handle act = false

-- an act that ends in an operation, where nothing is in its way
abbrev pub enters_history : Act → Bool
enters_history (acts.Call call) = true
enters_history acts.Stop = true
enters_history act = false

-- an answer of a core that no handle is begun on: its journal failed, or is full
abbrev pub is_unbegun : Form → Bool
is_unbegun (forms.Sync (syncs.Failed core)) = true
is_unbegun (forms.Full need free) = true
is_unbegun form = false

-- the call that is made where an act is answered with a ticket: the line's own, or that of the handle that it stops
abbrev pub call_made : Act → Option OpenHandle → Option Call
call_made (acts.Call call) handle = Some call
call_made acts.Stop handle = option_map (λ h. h.call) handle
call_made act handle = None

-- An answer with a ticket: the operation at that place of the history, which is the next one, is of the core, and performs the call
-- of the line, or of the handle that it stops, with the reply answered. It found the root's block and all that the handle took, and
-- beside that only blocks that its call may take.
pub record IsDrawn (sizes : Numbers) (history : List Operation) (next core : ℕ) (handle : Option OpenHandle) (act : Act) (ticket : ℕ) (reply : Reply) : Type 0 where
  pub operation : Operation
  pub call : Call
  pub at_place : slice_get history ticket ≡ Some operation
  pub ticket_is : ticket ≡ next
  pub core_is : operation.core ≡ core
  pub call_is : call_made act handle ≡ Some call
  pub performs : Performs sizes (contents_found operation) operation.written call reply
  pub root : IsSome (content_under (contents_found operation) (root_block sizes))
  pub taken : (b : ℕ) → has_block handle b ≡ true → IsSome (content_under (contents_found operation) b)
  pub foot : (b : ℕ) → IsSome (content_under (contents_found operation) b) → has_block handle b ≡ false → Always sizes (contents_found operation) (λ image. Foot sizes image call b)

-- Blocks of the handle of a core as a history left them, of which this is so.
abbrev pub OnItsBlocks : Numbers → BlockState → Option OpenHandle → (Entries → Call → Type 0) → Type 0
OnItsBlocks sizes state handle P = IsSomeAnd handle (λ h. (blocks : List ℕ) × AreBlocksOf sizes (contents_in state blocks) handle blocks × P (contents_in state blocks) h.call)

-- Another core is told, whose handle has the root's block, which the handle of this one has not.
pub record IsHeldBy (sizes : Numbers) (handles : ℕ → Option OpenHandle) (core block holder : ℕ) : Type 0 where
  pub root : block ≡ root_block sizes
  pub other : holder ≢ core
  pub theirs : has_root sizes (handles holder) ≡ true
  pub not_own : has_root sizes (handles core) ≡ false

-- What an answer says. A ticket is that of an operation. A block that a handle took it had not before, and its call may take it in
-- every state that shows a tree and has the blocks that the handle had before as the history so far left them. A handle that is ready
-- needs no more blocks for its call. A line that is busy takes blocks, and another core has that of the root. A begin opens a handle, a
-- drop ends one, and an act that doesn't suit the core is told so. What an answer says of the core's transactions and its journal is told
-- apart (`SaysOfLog`).
abbrev pub Says : Numbers → BlockState → List Operation → ℕ → (ℕ → Option OpenHandle) → ℕ → Act → Form → Type 0
Says sizes state history next handles core act (forms.Drew ticket reply) = IsDrawn sizes history next core (handles core) act ticket reply
Says sizes state history next handles core act (forms.Took block) = (act ≡ acts.Take) × OnItsBlocks sizes state (handles core) (λ found call. IsDue sizes found call block)
Says sizes state history next handles core act forms.Ready = (act ≡ acts.Take) × OnItsBlocks sizes state (handles core) (λ found call. IsPerformed sizes found call)
Says sizes state history next handles core act (forms.Busy block holder) = (takes_blocks act ≡ true) × IsHeldBy sizes handles core block holder
Says sizes state history next handles core act forms.Begun = ((call : Call) × (act ≡ acts.Begin call)) × (handles core ≡ None)
Says sizes state history next handles core act forms.Dropped = (act ≡ acts.Drop) × IsSome (handles core)
Says sizes state history next handles core act forms.Order = is_out_of_order (handles core) act ≡ true
Says sizes state history next handles core act (forms.Committed number) = act ≡ acts.Commit
Says sizes state history next handles core act forms.Empty = act ≡ acts.Commit
Says sizes state history next handles core act (forms.TxFull have more) = enters_history act ≡ true
Says sizes state history next handles core act (forms.Full need free) = begins_handle act ≡ true
Says sizes state history next handles core act (forms.Sync (syncs.Failed failed)) = (failed ≡ core) × ((begins_handle act ≡ true) ⊎ (act ≡ acts.Commit))
Says sizes state history next handles core act (forms.Sync (syncs.Fault device)) = (device ≡ devices.Journal core) × (act ≡ acts.Commit)
Says sizes state history next handles core act form = ⊥

-- An answer is right, after a history and with these handles open: it says what is so; an act that doesn't suit the core is told so; and
-- one that suits it, and takes blocks, is told the root's block and the other core that has it, where one has and a handle may be begun.
pub record IsRight (sizes : Numbers) (state : BlockState) (history : List Operation) (next : ℕ) (handles : ℕ → Option OpenHandle) (core : ℕ) (act : Act) (form : Form) : Type 0 where
  pub says : Says sizes state history next handles core act form
  pub order : is_out_of_order (handles core) act ≡ true → form ≡ forms.Order
  pub busy : (block holder : ℕ) → is_out_of_order (handles core) act ≡ false → takes_blocks act ≡ true → is_unbegun form ≡ false → IsHeldBy sizes handles core block holder → form ≡ forms.Busy block holder

-- Lines, answers and one history fit, after a history that was before: it is legal, it goes on from there by the operations of the
-- answers with a ticket, in their order, and each answer is right after the operations of the lines before it.
pub record Fit (sizes : Numbers) (start : BlockState) (before : List Operation) (played : List Played) (history : List Operation) : Type 0 where
  pub legal : IsLegal start history
  pub goes_on : take (length before) history ≡ before
  pub tickets : length history ≡ length before + tickets_in played
  pub each : (k : ℕ) (p : Played) → slice_get played k ≡ Some p
      → IsSomeAnd p.0.core (λ core. IsRight sizes (after start (take (length before + tickets_in (take k played)) history)) history (length before + tickets_in (take k played)) (handle_after (take k played)) core p.0.act p.1)

-- The calls that were made, by their tickets, and the replies that were answered, are the plain service's run from a tree on.
pub record IsRun (sizes : Numbers) (tree : FileTree) (played : List Played) : Type 0 where
  pub calls : List Call
  pub replies : List Reply
  pub many : length calls ≡ tickets_in played
  pub each : (k core ticket : ℕ) (line : Line) (reply : Reply) → slice_get played k ≡ Some (line, forms.Drew ticket reply) → line.core ≡ Some core
      → (slice_get calls ticket ≡ call_made line.act (handle_after (take k played) core)) × (slice_get replies ticket ≡ Some reply)
  pub run : replies ≡ replies_from (limits_of sizes) tree calls
