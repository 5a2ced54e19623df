-- Which entry a name finds.
use Rattle.std.proofs.Common.{◌≡◌, ◌≢◌, ℕ, zero, suc, ◌<◌, Bool, true, false, cond, List, [], ◌∷◌, Some, None, refl, ap, ◌∙◌, arith, slice_get}
use Rattle.std.specs.List.{find}
use Rattle.std.specs.Option.{option_map}
use Rattle.std.specs.Str.{bytes_eq}
use Rattle.std.proofs.lemmas.Slice.Eq.{bytes_eq-Decides}
use Rattle.zj_layout.specs.declared.fields.Link.{Link}
use Rattle.zj_layout.specs.Graph.{named}
use Rattle.zj_layout.proofs.Follow.{some_is, none_some}

-- the first entry of a name is the one that is found
pub named_first : (links : List Link) (place : ℕ) (l : Link) (name : List ℕ) → ((k : ℕ) (m : Link) → k < place → slice_get links k ≡ Some m → m.name ≢ name) → slice_get links place ≡ Some l → l.name ≡ name → named name links ≡ Some l.node
named_first [] place l name before h e = absurd (none_some h)
named_first (m ∷ links) zero l name before h e =
    let same : m ≡ l = some_is h in
    ap (λ b. option_map (λ (x : Link). x.node) (cond b (Some m) (find (λ (x : Link). bytes_eq x.name name) links))) ((bytes_eq-Decides m.name name).1 (ap (λ (x : Link). x.name) same ∙ e))
    ∙ ap (λ (x : Link). Some x.node) same
named_first (m ∷ links) (suc place) l name before h e =
    ap (λ b. option_map (λ (x : Link). x.node) (cond b (Some m) (find (λ (x : Link). bytes_eq x.name name) links))) (no_eq (bytes_eq m.name name) refl)
    ∙ named_first links place l name (λ k x lt g. before (suc k) x (omega arith) g) h e
  where
    no_eq : (b : Bool) → bytes_eq m.name name ≡ b → b ≡ false
    no_eq true q = absurd (before 0 m (omega arith) refl ((bytes_eq-Decides m.name name).0 q))
    no_eq false q = refl

pub named_nowhere : (links : List Link) (name : List ℕ) → ((k : ℕ) (m : Link) → slice_get links k ≡ Some m → m.name ≢ name) → named name links ≡ None
named_nowhere [] name h = refl
named_nowhere (m ∷ links) name h =
    ap (λ b. option_map (λ (x : Link). x.node) (cond b (Some m) (find (λ (x : Link). bytes_eq x.name name) links))) (no_eq (bytes_eq m.name name) refl)
    ∙ named_nowhere links name (λ k x g. h (suc k) x g)
  where
    no_eq : (b : Bool) → bytes_eq m.name name ≡ b → b ≡ false
    no_eq true q = absurd (h 0 m refl ((bytes_eq-Decides m.name name).0 q))
    no_eq false q = refl
