use Rattle.std.proofs.Common.{◌≡◌, List, [], ◌∷◌, length, sym, ap, ◌∙◌, refl, arith}
use Rattle.zj_area.specs.Journal.{AreaView}
use Rattle.zj_tx.specs.Record.{Record}
use Rattle.zj_mount.proofs.scanning.scan_one.Goals as goal

-- no element is in a list of length 0
nothing : (records : List Record) → length records ≡ 0 → records ≡ []
nothing [] none = refl
nothing (r ∷ records) none = absurd (omega (arith, none))

pub returns-in-Ok-clause-rest : goal.returns-in-Ok-clause-rest
returns-in-Ok-clause-rest g c = λ none unknown settled.
    let empty = sym c.len.ensures.len ∙ none in (
      c.in-Ok.ensures.at_rest unknown settled (nothing c.in-Ok.found empty),
      c.in-Ok.ensures.none unknown empty ∙ sym (ap (λ (a : AreaView g.row.D.Denot). a.tail) c.scan.ensures.same),
    )
