-- One block more that was taken.
use Rattle.std.proofs.Common.{◌≡◌, ℕ, Bool, true, false, cond, eqb, eqb-true, List, Option, Some, None, refl, sym, ap, ◌∙◌}
use Rattle.std.specs.Prelude.{slice_get}
use Rattle.zj_block.specs.Lists.{Entries, content_under}
use Rattle.zj_layout.specs.Image.{State}
use Rattle.zj_volume.specs.Volume.{Agrees}

-- it agrees with a state that has the block as it was found
pub agrees_more : (old new : Entries) (state : State) (b : ℕ) (c : List ℕ) → ((k : ℕ) → content_under new k ≡ cond (eqb b k) (Some c) (content_under old k)) → Agrees old state → slice_get state b ≡ Some c → Agrees new state
agrees_more old new state b c under agrees is = record { each = λ k content h. by k content (eqb b k) refl (sym (under k) ∙ h) }
  where
    by : (k : ℕ) (content : List ℕ) (t : Bool) → eqb b k ≡ t → cond t (Some c) (content_under old k) ≡ Some content → slice_get state k ≡ Some content
    by k content true e h = ap (slice_get state) (sym (eqb-true b k e)) ∙ is ∙ h
    by k content false e h = agrees.each k content h
