-- What lines and their answers tell of the transactions of the cores, and what each answer says of them.
use Rattle.std.specs.Prelude.{◌≡◌, ◌≢◌, ℕ, ◌+◌, ◌<◌, ◌≤◌, ◌&&◌, ◌||◌, Bool, true, false, List, [], ◌∷◌, ◌++◌, length, fold, take, count_by, Option, Some, IsSomeAnd, slice_get, ⊤}
use Rattle.std.specs.List.{list_any, slice_index_or}
use Rattle.zj_block.specs.Numbers.{zero_tail}
use Rattle.zj_block.specs.Sizes.{Numbers}
use Rattle.zj_block.specs.declared.numbers.Tail.{Tail}
use Rattle.zj_block.specs.declared.numbers.Writer.{Writer}
use Rattle.zj_block.specs.declared.sizes.TheConstants.{MAX_RECORD_BLOCKS}
use Rattle.zj_history.specs.Operation.{Contents, Operation}
use Rattle.zj_history.specs.State.{BlockState, after}
use Rattle.zj_history.specs.Transactions.{operations_of}
use Rattle.zj_tree.specs.declared.call.Call.{Call}
use Rattle.zj_tree.specs.declared.call.Reply.{Reply}
use Rattle.zj_inode.specs.Performs.{Performs}
use Rattle.zj_tx.specs.Frozen.{IsFrozen}
use Rattle.zj_tx.specs.Record.{Accepts, Ascends, IsRecord, Record}
use Rattle.zj_tx.specs.Running.{new_count}
use Rattle.zj_area.specs.Journal.{fullness}
use Rattle.zj_area.specs.Ring.{behind}
use Rattle.zj_script.specs.declared.line.Act.{Act}
use Rattle.zj_script.specs.declared.line.Act.TheVariants as acts
use Rattle.zj_script.specs.declared.answer.Form.{Form}
use Rattle.zj_script.specs.declared.answer.Form.TheVariants as forms
use Rattle.zj_script.specs.declared.answer.SyncForm.TheVariants as syncs
use Rattle.zj_session.specs.Played.{AreBlocksOf, OpenHandle, Played, begins_handle, blocks_of, call_made, contents_in, handle_after, is_on, is_out_of_order, tickets_in}

-- ---- what lines tell

-- an answer that a transaction was committed, and one that the device of its journal failed
abbrev pub is_committed : Form → Bool
is_committed (forms.Committed number) = true
is_committed form = false

abbrev pub is_fault : Form → Bool
is_fault (forms.Sync (syncs.Fault device)) = true
is_fault form = false

-- how many transactions of a core were committed in lines, and whether one failed to be
abbrev pub commits_in : List Played → ℕ → ℕ
commits_in played core = count_by (λ p. is_on core p.0.core && is_committed p.1) played

abbrev pub fails_in : List Played → ℕ → Bool
fails_in played core = list_any (λ p. is_on core p.0.core && is_fault p.1) played

-- how the cores stood before some lines: the number of the transaction that ran on each, and whether a commit of it had failed
pub record Standing : Type 0 where
  pub number : ℕ → ℕ
  pub failed : ℕ → Bool

-- the transaction that runs on a core behind lines, and whether a commit of it has failed
abbrev pub running_after : Standing → List Played → ℕ → Writer
running_after standing played core = record { core = core; number = standing.number core + commits_in played core }

abbrev pub failed_after : Standing → List Played → ℕ → Bool
failed_after standing played core = standing.failed core || fails_in played core

-- where the journal of a core begins
abbrev pub tail_at : List Tail → ℕ → Tail
tail_at tails core = slice_index_or tails core zero_tail

-- how the cores stand when an image was mounted with these tails
abbrev pub standing_at : List Tail → Standing
standing_at tails = record { number = λ core. (tail_at tails core).number; failed = λ core. false }

-- ---- the records of a core

-- These are the records of a core's transactions, from the one with the tail's number on, in turn: each is the frozen transaction, and
-- fits the image and the core.
pub record AreSealed (sizes : Numbers) (core : ℕ) (tail : Tail) (history : List Operation) (records : List Record) : Type 0 where
  pub each : (k : ℕ) (r : Record) → slice_get records k ≡ Some r → IsRecord r × Accepts sizes core (tail.number + k) r × IsFrozen history (record { core = core; number = tail.number + k }) r

-- where the next record is due behind records
abbrev pub end_behind : Numbers → Tail → List Record → Tail
end_behind sizes tail records = fold (behind sizes) tail records

-- ---- what an answer says

-- The transaction that runs on a core has no operation, and behind the records of those before it a longest record has no room.
pub record IsFull (sizes : Numbers) (tail : Tail) (known : List Operation) (running : Writer) (need free : ℕ) : Type 0 where
  pub none : operations_of known running ≡ []
  pub records : List Record
  pub sealed : AreSealed sizes running.core tail known records
  pub all : running.number ≡ tail.number + length records
  pub lacks : fullness sizes tail (end_behind sizes tail records) ≡ Some (record { need = need; free = free })

-- New contents perform the call of a line on blocks as the history left them, and with the new ones among these the transaction that runs
-- would have more blocks than a record. The blocks are those that the handle took one by one, that of the root's node, and beside these only
-- such as the call may take.
pub record IsOverfull (sizes : Numbers) (state : BlockState) (known : List Operation) (running : Writer) (handle : Option OpenHandle) (act : Act) (have more : ℕ) : Type 0 where
  pub sealed_now : Record
  pub ascending : Ascends 0 sealed_now.parts
  pub frozen : IsFrozen known running sealed_now
  pub have_is : have ≡ length sealed_now.parts
  pub call : Call
  pub call_is : call_made act handle ≡ Some call
  pub blocks : List ℕ
  pub its : AreBlocksOf sizes (contents_in state blocks) (Some (record { call = call; taken = blocks_of handle; stopped = true })) blocks
  pub reply : Reply
  pub written : Contents
  pub performs : Performs sizes (contents_in state blocks) written call reply
  pub more_is : more ≡ new_count sealed_now.parts written
  pub past : MAX_RECORD_BLOCKS < have + more

-- The operations of a transaction leave no more blocks than a record has.
pub record FitsRecord (history : List Operation) (t : Writer) : Type 0 where
  pub sealed_now : Record
  pub ascending : Ascends 0 sealed_now.parts
  pub frozen : IsFrozen history t sealed_now
  pub few : length sealed_now.parts ≤ MAX_RECORD_BLOCKS

-- What an answer says of the transaction that runs on its core, where these operations were before. One with a ticket belongs to it, and with
-- that one it has no more blocks than a record. A commit that is answered has some operation to commit, and names the number; one that fails has
-- some as well; and an empty one has none. A full journal, and a transaction that would have too many blocks, are told so. Only a core of which a
-- commit has failed is told that.
abbrev pub SaysOfLog : Numbers → Tail → BlockState → List Operation → List Operation → Writer → Bool → Option OpenHandle → Act → Form → Type 0
SaysOfLog sizes tail state known history running failed handle act (forms.Drew ticket reply) = (failed ≡ false) × IsSomeAnd (slice_get history ticket) (λ o. (o.number ≡ running.number) × FitsRecord (known ++ o ∷ []) running)
SaysOfLog sizes tail state known history running failed handle act forms.Begun = failed ≡ false
SaysOfLog sizes tail state known history running failed handle act (forms.Committed number) = (failed ≡ false) × (number ≡ running.number) × (operations_of known running ≢ [])
SaysOfLog sizes tail state known history running failed handle act forms.Empty = (failed ≡ false) × (operations_of known running ≡ [])
SaysOfLog sizes tail state known history running failed handle act (forms.Full need free) = (failed ≡ false) × IsFull sizes tail known running need free
SaysOfLog sizes tail state known history running failed handle act (forms.TxFull have more) = (failed ≡ false) × IsOverfull sizes state known running handle act have more
SaysOfLog sizes tail state known history running failed handle act (forms.Sync (syncs.Failed core)) = failed ≡ true
SaysOfLog sizes tail state known history running failed handle act (forms.Sync (syncs.Fault device)) = (failed ≡ false) × (operations_of known running ≢ [])
SaysOfLog sizes tail state known history running failed handle act form = ⊤

-- an act that commits
abbrev pub is_commit : Act → Bool
is_commit acts.Commit = true
is_commit act = false

-- What an answer says of its core's transactions is right: it says what is so; and an act that suits the core, and begins a handle, is told
-- that a commit has failed where one has, and else that the journal is full where it is. A commit is told so as well.
pub record IsRightOfLog (sizes : Numbers) (tail : Tail) (state : BlockState) (known history : List Operation) (running : Writer) (failed : Bool) (handle : Option OpenHandle) (act : Act) (form : Form) : Type 0 where
  pub says : SaysOfLog sizes tail state known history running failed handle act form
  pub failing : is_out_of_order handle act ≡ false → (begins_handle act || is_commit act) ≡ true → failed ≡ true → form ≡ forms.Sync (syncs.Failed running.core)
  pub full : is_out_of_order handle act ≡ false → begins_handle act ≡ true → failed ≡ false → (need free : ℕ) → IsFull sizes tail known running need free → form ≡ forms.Full need free

-- Lines, answers and one history fit the transactions of the cores: what each answer says of these is right, after the operations of the
-- lines before it.
pub record FitsLog (sizes : Numbers) (tails : List Tail) (start : BlockState) (before : List Operation) (standing : Standing) (played : List Played) (history : List Operation) : Type 0 where
  pub each : (k : ℕ) (p : Played) → slice_get played k ≡ Some p
      → let front : List Played = take k played in
      let known : List Operation = take (length before + tickets_in front) history in
      IsSomeAnd p.0.core (λ core. IsRightOfLog sizes (tail_at tails core) (after start known) known history (running_after standing front core) (failed_after standing front core) (handle_after front core) p.0.act p.1)
