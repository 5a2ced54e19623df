-- New contents that answer a call perform it once those are left out that come out as they were found.
use Rattle.std.proofs.Common.{◌≡◌, ◌≢◌, ◌⊎◌, inl, inr, ℕ, ◌%◌, Bool, true, false, cond, ltb, List, Option, Some, None, IsSome, refl, sym, ap, ◌∙◌, subst}
use Rattle.std.specs.FinMap as map_of
use Rattle.std.specs.FinMap.{get-empty, same_map, nat_cmp-IsAntisymmetric}
use Rattle.std.specs.Cmp.{nat_cmp_total}
use Rattle.std.specs.Ordering.{nat_cmp}
use Rattle.zj_block.specs.Lists.{Entries, content_under}
use Rattle.zj_block.specs.Sizes.{Numbers}
use Rattle.zj_tree.specs.declared.call.Call.{Call}
use Rattle.zj_tree.specs.declared.call.Refusal.{Refusal}
use Rattle.zj_tree.specs.declared.call.Reply.{Reply}
use Rattle.zj_tree.specs.declared.call.Reply.TheVariants.{Refused}
use Rattle.zj_tree.specs.Apply.{apply}
use Rattle.zj_tree.specs.Tree.{FileTree}
use Rattle.zj_layout.specs.Node.{byte_in}
use Rattle.zj_layout.specs.Image.{State, image_of, block_at, map_block}
use Rattle.zj_layout.specs.Shows.{Shows, Changes, put_blocks, limits_of}
use Rattle.zj_changes.specs.Holds.{Answers}
use Rattle.zj_dirs.specs.Possible.{AllTaken, IsPossible}
use Rattle.zj_dirs.specs.Trimming.{Counts, IsTrimmed, MakeTheSame, WasFoundFree}
use Rattle.zj_dirs.proofs.Seen.{seen_block, some_differs}
use Rattle.zj_dirs.proofs.Trimmed.{nothing_put}
use Rattle.zj_dirs.proofs.Walks.{put_nothing}
use Rattle.zj_inode.specs.Answering.{Builds}
use Rattle.zj_inode.specs.Performs.{IsWrittenOver, Performs}

-- a block that was found free is free
pub found_free : (sizes : Numbers) (found : Entries) (state : State) (tree : FileTree) → IsPossible sizes found state tree → (block : ℕ) → WasFoundFree found block → (image_of sizes state).map block ≡ 0
found_free sizes found state tree p block f = by (ltb block sizes.blocks) refl
  where
    by : (b : Bool) → ltb block sizes.blocks ≡ b → cond b (byte_in (block_at state (map_block block)) (block % 512)) 0 ≡ 0
    by false e = refl
    by true e = ap (λ c. byte_in c (block % 512)) (seen_block sizes found state tree p (map_block block) f.map f.has) ∙ f.free

-- the same content is one of the built ones
trimmed_taken : (found : Entries) (built after : Changes) → IsTrimmed found built after → AllTaken found built → AllTaken found after
trimmed_taken found built after t all block some = by (map_of.get after block) refl
  where
    by : (o : Option (List ℕ)) → map_of.get after block ≡ o → IsSome (content_under found block)
    by None e = absurd (some_differs some e)
    by (Some c) e = all block (subst IsSome (sym (t.only block c e).0) refl)

-- where nothing is built, nothing is left
trimmed_nothing : (found : Entries) (built after : Changes) → IsTrimmed found built after → built ≡ map_of.empty → after ≡ map_of.empty
trimmed_nothing found built after t none = same_map nat_cmp_total nat_cmp-IsAntisymmetric after map_of.empty (λ block. by block (map_of.get after block) refl ∙ sym (get-empty nat_cmp block))
  where
    by : (block : ℕ) (o : Option (List ℕ)) → map_of.get after block ≡ o → map_of.get after block ≡ None
    by block None e = e
    by block (Some c) e = absurd (nothing_put built block c none (t.only block c e).0)

pub performs_trimmed : (sizes : Numbers) (found : Entries) (built after : Changes) (call : Call) (reply : Reply) → IsTrimmed found built after → MakeTheSame found built after → AllTaken found built → Builds sizes found built call reply → Performs sizes found after call reply
performs_trimmed sizes found built after call reply t same all b = record {
  taken = trimmed_taken found built after t all;
  each = λ state tree p. let a = b.each state tree p in record {
    replies = a.replies;
    leaves = subst (λ s. Shows sizes s (apply (limits_of sizes) call tree).1) (sym (same sizes state tree p)) a.leaves;
    changed = λ block content h. counted state tree p block content (t.only block content h).1;
  };
  quiet = λ q. trimmed_nothing found built after t (b.quiet q);
}
  where
    counted : (state : State) (tree : FileTree) → IsPossible sizes found state tree → (block : ℕ) (content : List ℕ) → Counts found block content
        → (content_under found block ≢ Some content) ⊎ ((image_of sizes state).map block ≡ 0) ⊎ IsWrittenOver (image_of sizes (put_blocks state after)) call block
    counted state tree p block content (inl differs) = inl differs
    counted state tree p block content (inr free) = inr (inl (found_free sizes found state tree p block free))

pub performs_refused : (sizes : Numbers) (found : Entries) (written : Changes) (call : Call) (refusal : Refusal) → written ≡ map_of.empty → ((state : State) (tree : FileTree) → IsPossible sizes found state tree → Answers sizes call (Refused refusal) tree state)
    → Performs sizes found written call (Refused refusal)
performs_refused sizes found written call refusal none each = record {
  taken = λ block some. absurd (some_differs some (ap (λ w. map_of.get w block) none ∙ get-empty nat_cmp block));
  each = λ state tree p. let a = each state tree p in record {
    replies = a.replies;
    leaves = subst (λ s. Shows sizes s (apply (limits_of sizes) call tree).1) (sym (ap (put_blocks state) none ∙ put_nothing state)) a.leaves;
    changed = λ block content h. absurd (nothing_put written block content none h);
  };
  quiet = λ q. none;
}

-- where nothing is built, each built block was taken
pub none_taken : (found : Entries) (built : Changes) → built ≡ map_of.empty → AllTaken found built
none_taken found built none block some = absurd (some_differs some (ap (λ w. map_of.get w block) none ∙ get-empty nat_cmp block))
