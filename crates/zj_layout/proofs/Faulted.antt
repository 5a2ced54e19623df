-- The first rule that fails, of rules that are tried in order.
use Rattle.std.proofs.Common.{ℕ, zero, suc, ◌+◌, ◌<◌, ◌≤◌, sym, subst, arith, below_more}
use Rattle.zj_block.specs.Sizes.{Numbers}
use Rattle.zj_layout.specs.declared.faults.TreeFault.{TreeFault}
use Rattle.zj_layout.specs.declared.faults.TreeFault.TheVariants.{NoTree, NoMemory}
use Rattle.zj_layout.specs.Image.{State, Image, image_of}
use Rattle.zj_layout.specs.Rules.{Rule, Rule1, Rule3, FailsFirst}
use Rattle.zj_layout.specs.Faults.{IsFaultOf, IsFirstFault}
use Rattle.zj_layout.specs.Read.{HasNodes, HasEntries}

-- the rules before one hold
abbrev pub HoldBefore : Numbers → Image → ℕ → Type 0
HoldBefore sizes im rule = (lower : ℕ) → lower < rule → (b : ℕ) → Rule lower sizes im b

pub hold_none : (sizes : Numbers) (im : Image) → HoldBefore sizes im 1
hold_none sizes im zero lt b = tt
hold_none sizes im (suc lower) lt b = absurd (omega arith)

pub hold_more : (sizes : Numbers) (im : Image) (rule : ℕ) → HoldBefore sizes im rule → ((b : ℕ) → Rule rule sizes im b) → HoldBefore sizes im (rule + 1)
hold_more sizes im rule before here = below_more (λ k. (b : ℕ) → Rule k sizes im b) rule before here

pub rule_1 : (sizes : Numbers) (s : State) → HasNodes sizes s → (b : ℕ) → Rule1 sizes (image_of sizes s) b
rule_1 sizes s h b n lt is = h.each n lt

pub rule_3 : (sizes : Numbers) (s : State) → HasEntries sizes s → (b : ℕ) → Rule3 sizes (image_of sizes s) b
rule_3 sizes s h b dir place has is = h.each dir place has

pub first_fault : (sizes : Numbers) (im : Image) (rule : ℕ) (fault : TreeFault) → 1 ≤ rule → rule ≤ 6 → HoldBefore sizes im rule → IsFaultOf rule (Rule rule sizes im) fault → IsFirstFault sizes im fault
first_fault sizes im rule (NoTree found block) some few before (is, f) =
    subst (λ r. FailsFirst sizes im r block) (sym is) (record { known = (some, few); fails = f.fails; first = before; lowest = f.lowest })
first_fault sizes im rule NoMemory some few before h = tt
