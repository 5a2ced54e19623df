-- The first of some faults, as a definition lists them.
use Rattle.std.specs.Prelude.{Bool, true, false, List, [], ◌∷◌, Option, Some, None}

-- a fault where a test fails
abbrev pub fault_unless : {X : Type 0} → Bool → X → Option X
fault_unless true fault = None
fault_unless false fault = Some fault

-- the first fault that is there
abbrev pub first_fault : {X : Type 0} → List (Option X) → Option X
first_fault [] = None
first_fault (None ∷ rest) = first_fault rest
first_fault (Some fault ∷ rest) = Some fault
