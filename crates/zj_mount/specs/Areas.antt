-- The areas of an image, as a list that has room ahead.
use Rattle.std.specs.Prelude.{ℕ, List}
use Rattle.zj_area.specs.Journal.{AreaView}

-- the areas, in the order of their cores, and how many more have a place
pub record AreaList (D : Type 0) : Type 0 where
  pub areas : List (AreaView D)
  pub spare : ℕ
