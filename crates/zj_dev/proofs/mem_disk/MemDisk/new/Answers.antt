use Rattle.std.proofs.Common.{arith}
use Rattle.std.proofs.Common.{refl, ap}
use Rattle.std.proofs.Common.{length, Some}
use Rattle.zj_dev.proofs.Images.{are_bytes}
use Rattle.zj_dev.proofs.Histories.{fresh, fresh_only, is_disk}
use Rattle.zj_dev.proofs.mem_disk.MemDisk.new.Goals as goal

pub invariant_of-result-clause-history_is : goal.invariant_of-result-clause-history_is
invariant_of-result-clause-history_is c =
    fresh c.args.bytes.now _ _ _ _ _ (are_bytes c.args.bytes.now (λ k. (c.type_inv.bytes k).fits))
    c.in_ok-from_slice.ensures.items c.new.ensures.items c.in_ok-from_slice-2.ensures.items c.in_ok-from_slice-3.ensures.items c.new-2.ensures.items

pub returns-clause-told : goal.returns-clause-told
returns-clause-told c = record {
  size = ap length c.in_ok-from_slice-2.ensures.items;
  calls = refl;
  faults = refl;
  bytes = ap Some c.in_ok-from_slice-2.ensures.items;
  only = λ image h. fresh_only c.args.bytes.now _ _ image c.in_ok-from_slice.ensures.items c.new.ensures.items h;
  is_disk = is_disk _ _ _ _ 0 _ (fresh c.args.bytes.now _ _ _ _ _ (are_bytes c.args.bytes.now (λ k. (c.type_inv.bytes k).fits))
      c.in_ok-from_slice.ensures.items c.new.ensures.items c.in_ok-from_slice-2.ensures.items c.in_ok-from_slice-3.ensures.items c.new-2.ensures.items) (omega arith);
}
