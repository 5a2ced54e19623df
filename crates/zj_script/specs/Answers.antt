-- Answers, and their one spelling.
use Rattle.std.specs.Prelude.{ℕ, List, [], ◌∷◌, ◌++◌, Option, Some, None, codes, decimal, map, take}
use Rattle.std.specs.Str.{byte}
use Rattle.zj_dev.specs.Device.{device_name}
use Rattle.zj_tree.specs.declared.call.Reply.{Reply}
use Rattle.zj_tree.specs.declared.call.Reply.TheVariants as replies
use Rattle.zj_tree.specs.declared.call.Refusal.{Refusal}
use Rattle.zj_tree.specs.declared.call.Refusal.TheVariants as refusals
use Rattle.zj_script.specs.declared.answer.Answer.{Answer}
use Rattle.zj_script.specs.declared.answer.Form.{Form}
use Rattle.zj_script.specs.declared.answer.Form.TheVariants as forms
use Rattle.zj_script.specs.declared.answer.SyncForm.{SyncForm}
use Rattle.zj_script.specs.declared.answer.SyncForm.TheVariants as syncs
use Rattle.zj_script.specs.Text.{bytes_text}
use Rattle.zj_script.specs.Words.{spelled}

-- the word of a refusal
abbrev pub refusal_word : Refusal → List ℕ
refusal_word refusals.NotFound = codes "notfound"
refusal_word refusals.NotDir = codes "notdir"
refusal_word refusals.IsDir = codes "isdir"
refusal_word refusals.Exists = codes "exists"
refusal_word refusals.NotEmpty = codes "notempty"
refusal_word refusals.Inside = codes "inside"
refusal_word refusals.TooBig = codes "toobig"
refusal_word refusals.NoNodes = codes "nonodes"
refusal_word refusals.NoSpace = codes "nospace"
refusal_word refusals.DirFull = codes "dirfull"
refusal_word refusals.PastEnd = codes "pastend"

-- the word of a file's bytes, none where there are no bytes
abbrev pub data_words : List ℕ → List (List ℕ)
data_words [] = []
data_words (b ∷ bytes) = bytes_text (b ∷ bytes) ∷ []

-- the words of a reply
abbrev pub reply_words : Reply → List (List ℕ)
reply_words replies.Done = codes "ok" ∷ []
reply_words (replies.Data bytes) = codes "data" ∷ data_words bytes
reply_words (replies.Listed names) = codes "names" ∷ names
reply_words (replies.Dir entries) = codes "dir" ∷ decimal entries ∷ []
reply_words (replies.File size) = codes "file" ∷ decimal size ∷ []
reply_words (replies.Refused refusal) = refusal_word refusal ∷ []

-- the words of what came of waiting for a receipt; a receipt has the bounds of its cores
abbrev pub sync_words : SyncForm → List (List ℕ)
sync_words (syncs.Receipt cores covers) = codes "receipt" ∷ map (λ bound. decimal bound) (take cores covers)
sync_words (syncs.Wait core need stable) = codes "wait" ∷ decimal core ∷ decimal need ∷ decimal stable ∷ []
sync_words (syncs.Failed core) = codes "failed" ∷ decimal core ∷ []
sync_words (syncs.Fault device) = codes "fault" ∷ device_name device ∷ []

-- the words of an answer behind its line and core
abbrev pub form_words : Form → List (List ℕ)
form_words (forms.Drew ticket reply) = decimal ticket ∷ reply_words reply
form_words (forms.Synced ticket sync) = decimal ticket ∷ codes "ok" ∷ sync_words sync
form_words forms.Begun = codes "begun" ∷ []
form_words (forms.Took block) = codes "took" ∷ decimal block ∷ []
form_words (forms.Saw block) = codes "saw" ∷ decimal block ∷ []
form_words forms.Ready = codes "ready" ∷ []
form_words forms.Dropped = codes "dropped" ∷ []
form_words (forms.Committed number) = codes "committed" ∷ decimal number ∷ []
form_words forms.Empty = codes "empty" ∷ []
form_words (forms.Sync sync) = sync_words sync
form_words forms.Open = codes "open" ∷ []
form_words forms.Checkpointed = codes "checkpointed" ∷ []
form_words (forms.Damaged device) = codes "damaged" ∷ device_name device ∷ []
form_words (forms.Busy block holder) = codes "busy" ∷ decimal block ∷ decimal holder ∷ []
form_words (forms.TxFull have more) = codes "txfull" ∷ decimal have ∷ decimal more ∷ []
form_words (forms.Full need free) = codes "full" ∷ decimal need ∷ decimal free ∷ []
form_words (forms.Again block noted found) = codes "again" ∷ decimal block ∷ decimal noted ∷ decimal found ∷ []
form_words forms.Order = codes "order" ∷ []

-- the word of an answer's core, a dash for that of a checkpoint
abbrev pub answer_core : Option ℕ → List ℕ
answer_core None = codes "-"
answer_core (Some core) = decimal core

-- the words of an answer: line, core, and those of its form
abbrev pub answer_words : Answer → List (List ℕ)
answer_words answer = decimal answer.line ∷ answer_core answer.core ∷ form_words answer.form

-- the line of an answer, and the line feed that ends it
abbrev pub answer_text : Answer → List ℕ
answer_text answer = spelled (answer_words answer) ++ byte "\n" ∷ []
