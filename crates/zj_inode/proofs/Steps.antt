-- From a step to the call, and what a node that names lead to says of a possible state.
use Rattle.std.proofs.Common.{◌≡◌, ℕ, List, [], ◌∷◌, ◌++◌, None, append_assoc, refl, sym, ap, ◌∙◌, subst}
use Rattle.std.specs.FinMap as map_of
use Rattle.std.specs.Option.{unwrap_or}
use Rattle.zj_block.specs.Lists.{Entries, content_under}
use Rattle.zj_block.specs.Sizes.{Numbers}
use Rattle.zj_tree.specs.declared.call.Refusal.{Refusal}
use Rattle.zj_tree.specs.declared.call.Refusal.TheVariants.{NotDir, NotFound}
use Rattle.zj_tree.specs.Tree.{FileTree}
use Rattle.zj_layout.specs.declared.fields.Kind.{Kind}
use Rattle.zj_layout.specs.declared.fields.Kind.TheVariants.{Free}
use Rattle.zj_layout.specs.declared.fields.Node.{Node}
use Rattle.zj_layout.specs.Image.{State, Image, image_of, free_node, node_of}
use Rattle.zj_layout.specs.Stored.{IsStored}
use Rattle.zj_layout.specs.Shows.{Changes, put_blocks}
use Rattle.zj_layout.proofs.Sound.{live_kind}
use Rattle.zj_changes.specs.Walk.{LeadsToNoDirectory, Stops, at_file, behind_file, no_entry, no_way_to_directory}
use Rattle.zj_dirs.specs.declared.answers.Stop.{Stop}
use Rattle.zj_dirs.specs.declared.answers.Stop.TheVariants as stop
use Rattle.zj_dirs.specs.declared.answers.Halt.{Halt}
use Rattle.zj_dirs.specs.declared.answers.Halt.TheVariants as halt
use Rattle.zj_dirs.specs.Possible as dirs
use Rattle.zj_dirs.specs.Possible.{IsOdd, IsPossible, Always, Halts, KeepsContents, Made, Turns, overlaid}
use Rattle.zj_dirs.specs.Walking.{LacksName, MeetsFile}
use Rattle.zj_dirs.proofs.Looks.{overlaid_nothing}
use Rattle.zj_dirs.proofs.Walks.{leads_live, possible_stored, put_nothing}
use Rattle.zj_inode.specs.declared.finding.Located.{Located}
use Rattle.zj_inode.specs.declared.stopped.Stopped.{Stopped}
use Rattle.zj_inode.specs.declared.stopped.Stopped.TheVariants as stopped
use Rattle.zj_inode.specs.Answering.{AfterSays, StopSays, stopped_by, stopped_at}
use Rattle.zj_inode.specs.Finding.{IsAt}

-- what a refusal has as its cause
abbrev pub Causes : Type 1
Causes = State → FileTree → Refusal → Type 0

-- each block that is due for a part is due for the whole, as the blocks were found
abbrev pub IsDue : Numbers → Entries → (Image → ℕ → Type 0) → (Image → ℕ → Type 0) → Type 0
IsDue sizes found Part Whole = (state : State) (tree : FileTree) → IsPossible sizes found state tree → (b : ℕ) → Part (image_of sizes state) b → Whole (image_of sizes state) b

-- each cause of a part's refusal is one of the whole's
abbrev pub IsCause : Numbers → Entries → Causes → Causes → Type 0
IsCause sizes found Part Whole = (state : State) (tree : FileTree) → IsPossible sizes found state tree → (r : Refusal) → Part state tree r → Whole state tree r

pub stops_more : (sizes : Numbers) (found : Entries) (Part Whole : Image → ℕ → Type 0) (Cause All : Causes) → IsDue sizes found Part Whole → IsCause sizes found Cause All → (s : Stopped) → StopSays sizes found Part Cause s → StopSays sizes found Whole All s
stops_more sizes found Part Whole Cause All due cause (stopped.Need block) h = (h.0, λ state tree p. due state tree p block.0 (h.1 state tree p))
stops_more sizes found Part Whole Cause All due cause (stopped.Refused r) h = λ state tree p. cause state tree p r (h state tree p)
stops_more sizes found Part Whole Cause All due cause stopped.Odd h = h
stops_more sizes found Part Whole Cause All due cause stopped.NoMemory h = h

-- the same of a step that follows changes, none of which took a block that had no content
abbrev pub IsDueAfter : Numbers → Entries → Changes → (Image → ℕ → Type 0) → (Image → ℕ → Type 0) → Type 0
IsDueAfter sizes found written Part Whole = (state : State) (tree : FileTree) → IsPossible sizes found state tree → (b : ℕ) → Part (image_of sizes (put_blocks state written)) b → Whole (image_of sizes state) b

abbrev pub KeepsFound : Entries → Changes → Type 0
KeepsFound found written = (b : ℕ) → overlaid found written b ≡ None → content_under found b ≡ None

pub stops_by : (sizes : Numbers) (found : Entries) (written : Changes) (Part Whole : Image → ℕ → Type 0) (All : Causes) → KeepsFound found written → IsDueAfter sizes found written Part Whole → (s : Stop) → dirs.Stops sizes found written Part s → StopSays sizes found Whole All (stopped_by s)
stops_by sizes found written Part Whole All kept due (stop.Need block) h = (kept block.0 h.0, λ state tree p. due state tree p block.0 (h.1 state tree p))
stops_by sizes found written Part Whole All kept due stop.Odd h = h

pub stops_at : (sizes : Numbers) (found : Entries) (written : Changes) (Part Whole : Image → ℕ → Type 0) (All : Causes) → KeepsFound found written → IsDueAfter sizes found written Part Whole → (s : Halt) → Halts sizes found written Part s → StopSays sizes found Whole All (stopped_at s)
stops_at sizes found written Part Whole All kept due (halt.Need block) h = (kept block.0 h.0, λ state tree p. due state tree p block.0 (h.1 state tree p))
stops_at sizes found written Part Whole All kept due halt.Odd h = h
stops_at sizes found written Part Whole All kept due halt.NoMemory h = h

pub stops_after : (sizes : Numbers) (found : Entries) (written : Changes) (Part Whole : Image → ℕ → Type 0) (Cause All : Causes) → KeepsFound found written → IsDueAfter sizes found written Part Whole
    → ((state : State) (tree : FileTree) → IsPossible sizes found state tree → (r : Refusal) → Cause (put_blocks state written) tree r → All state tree r)
    → (s : Stopped) → AfterSays sizes found written Part Cause s → StopSays sizes found Whole All s
stops_after sizes found written Part Whole Cause All kept due cause (stopped.Need block) h = (kept block.0 h.0, λ state tree p. due state tree p block.0 (h.1 state tree p))
stops_after sizes found written Part Whole Cause All kept due cause (stopped.Refused r) h = λ state tree p. cause state tree p r (h state tree p)
stops_after sizes found written Part Whole Cause All kept due cause stopped.Odd h = h
stops_after sizes found written Part Whole Cause All kept due cause stopped.NoMemory h = h

-- a change after others, as a step of the whole before them
pub after_at : (sizes : Numbers) (found : Entries) (before after : Changes) (Part Whole : Image → ℕ → Type 0) (All : Causes) → KeepsContents found before after
    → ((state : State) (tree : FileTree) → IsPossible sizes found state tree → (b : ℕ) → Part (image_of sizes (put_blocks state after)) b → Whole (image_of sizes (put_blocks state before)) b)
    → (s : Halt) → Halts sizes found after Part s → AfterSays sizes found before Whole All (stopped_at s)
after_at sizes found before after Part Whole All kept due (halt.Need block) h = (kept block.0 h.0, λ state tree p. due state tree p block.0 (h.1 state tree p))
after_at sizes found before after Part Whole All kept due halt.Odd h = h
after_at sizes found before after Part Whole All kept due halt.NoMemory h = h

-- where no state is possible
pub odd_says : (sizes : Numbers) (found : Entries) (Due : Image → ℕ → Type 0) (Cause : Causes) (s : Stop) → s ≡ stop.Odd → IsOdd sizes found → StopSays sizes found Due Cause (stopped_by s)
odd_says sizes found Due Cause s e odd = subst (λ x. StopSays sizes found Due Cause (stopped_by x)) (sym e) odd

pub odd_after : (sizes : Numbers) (found : Entries) (written : Changes) (Due : Image → ℕ → Type 0) (Cause : Causes) (s : Stop) → s ≡ stop.Odd → IsOdd sizes found → AfterSays sizes found written Due Cause (stopped_by s)
odd_after sizes found written Due Cause s e odd = subst (λ x. AfterSays sizes found written Due Cause (stopped_by x)) (sym e) odd

-- a look before any change
pub found_kept : (found : Entries) → KeepsFound found map_of.empty
found_kept found b h = sym (overlaid_nothing found b) ∙ h

pub stops_looking : (sizes : Numbers) (found : Entries) (Part Whole : Image → ℕ → Type 0) (All : Causes) → IsDue sizes found Part Whole → (s : Stop) → dirs.Stops sizes found map_of.empty Part s → StopSays sizes found Whole All (stopped_by s)
stops_looking sizes found Part Whole All due = stops_by sizes found map_of.empty Part Whole All (found_kept found) (λ state tree p b h. due state tree p b (subst (λ s. Part (image_of sizes s) b) (put_nothing state) h))

-- where nothing was written yet
module _ (sizes : Numbers) (found : Entries) (written : Changes) (fresh : written ≡ map_of.empty) where
  pub same_image : (state : State) → image_of sizes (put_blocks state written) ≡ image_of sizes state
  same_image state = ap (image_of sizes) (ap (put_blocks state) fresh ∙ put_nothing state)

  pub fresh_kept : KeepsFound found written
  fresh_kept = subst (KeepsFound found) (sym fresh) (found_kept found)

  pub fresh_made : (P : Image → Type 0) → Always sizes found P → Made sizes found written P
  fresh_made P h state tree p = subst P (sym (same_image state)) (h state tree p)

  pub fresh_always : (P : Image → Type 0) → Made sizes found written P → Always sizes found P
  fresh_always P h state tree p = subst P (same_image state) (h state tree p)

  pub fresh_turns : (after : Changes) (R : Image → Image → Type 0) → Turns sizes found written after R → (state : State) (tree : FileTree) → IsPossible sizes found state tree → R (image_of sizes state) (image_of sizes (put_blocks state after))
  fresh_turns after R h state tree p = subst (λ i. R i (image_of sizes (put_blocks state after))) (same_image state) (h state tree p)

  pub fresh_then_kept : (after : Changes) → KeepsContents found written after → KeepsFound found after
  fresh_then_kept after kept b h = fresh_kept b (kept b h)

pub always_stored : (sizes : Numbers) (found : Entries) → Always sizes found (IsStored sizes)
always_stored sizes found state tree p = possible_stored sizes state tree p.shows

-- ---- walks

pub lacking_stops : (image : Image) (names : List (List ℕ)) → LacksName image names → Stops image names NotFound
lacking_stops image names l = no_entry l.on_the_way.front l.name l.on_the_way.rest l.dir l.on_the_way.path_is l.on_the_way.leads l.directory l.absent refl

pub meeting_stops : (image : Image) (names : List (List ℕ)) → MeetsFile image names → Stops image names NotDir
meeting_stops image names m = behind_file m.on_the_way.front m.name m.on_the_way.rest m.file m.on_the_way.path_is m.on_the_way.leads m.is_file refl

-- names that lead to no directory lead to nothing behind it
pub behind_no_directory : (image : Image) (front : List (List ℕ)) (name : List ℕ) (r : Refusal) → LeadsToNoDirectory image front r → Stops image (front ++ name ∷ []) r
behind_no_directory image front name r (no_way_to_directory (behind_file before next rest file is leads kind e)) = behind_file before next (rest ++ name ∷ []) file (ap (λ (q : List (List ℕ)). q ++ name ∷ []) is ∙ append_assoc before (next ∷ rest) (name ∷ [])) leads kind e
behind_no_directory image front name r (no_way_to_directory (no_entry before next rest dir is leads kind absent e)) = no_entry before next (rest ++ name ∷ []) dir (ap (λ (q : List (List ℕ)). q ++ name ∷ []) is ∙ append_assoc before (next ∷ rest) (name ∷ [])) leads kind absent e
behind_no_directory image front name r (at_file file leads kind e) = behind_file front name [] file refl leads kind e

-- ---- a node that names lead to

module _ (image : Image) (names : List (List ℕ)) (found : Located) (at : IsAt image names found) where
  pub the_node : node_of image found.number ≡ found.node
  the_node = ap (λ o. unwrap_or o free_node) at.is

  pub kind_at : (kind : Kind) → found.node.kind ≡ kind → (node_of image found.number).kind ≡ kind
  kind_at kind e = ap (λ (n : Node). n.kind) the_node ∙ e

  pub size_at : (node_of image found.number).size ≡ found.node.size
  size_at = ap (λ (n : Node). n.size) the_node

pub free_odd : (sizes : Numbers) (blocks : Entries) (state : State) (tree : FileTree) → IsPossible sizes blocks state tree → (names : List (List ℕ)) (found : Located) → IsAt (image_of sizes state) names found → found.node.kind ≡ Free → ⊥
free_odd sizes blocks state tree p names found at e = live_kind (image_of sizes state) found.number (leads_live sizes blocks state tree p names found.number at.leads) (kind_at (image_of sizes state) names found at Free e)
