use Rattle.std.proofs.Common.{◌≡◌, ◌+◌, ◌<◌, List, ℕ, [], ◌∷◌, ◌++◌, Some, length, take, ap, sym, ◌∙◌, arith}
use Rattle.std.specs.List.{flat_map, slice_get}
use Rattle.std.proofs.lemmas.List.{flat_map_more, take_more}
use Rattle.std.proofs.lemmas.Option.{get_or_from_slice_get}
use Rattle.zj_block.specs.declared.numbers.Tail.{Tail}
use Rattle.zj_home.specs.Made.{field_bytes, tail_bytes}
use Rattle.zj_home.proofs.spelling.spell.Goals as goal

-- one tail more
take_one : (tails : List Tail) (i : ℕ) (tail : Tail) → i < length tails → slice_get tails i ≡ Some tail → take (i + 1) tails ≡ take i tails ++ tail ∷ []
take_one tails i tail within is = take_more tails i tail within ∙ ap (λ (t : Tail). take i tails ++ t ∷ []) (get_or_from_slice_get tails i tail tail is)

pub loop-core-preserved : goal.loop-core-preserved
loop-core-preserved c =
    let told = c.args.told.now in
    let fields = field_bytes told.epoch told.sizes in
    let before = take c.loop-core.core told.tails in
    let tail = c.unwrap.result in
    let more = take_one told.tails c.loop-core.core tail (omega (arith, c.at.ensures.many, c.cores-core-end.ensures.limits.most_cores)) (sym c.at.ensures.tail ∙ c.unwrap.ensures) in
    record {
      spelled = c.spell_tail.ensures.spelled ∙ ap (λ (l : List ℕ). l ++ tail_bytes tail) c.loop-core.invariant.spelled
          ∙ flat_map_more tail_bytes fields before tail ∙ ap (λ (ts : List Tail). fields ++ flat_map tail_bytes ts) (sym more);
      len = omega arith;
    }
