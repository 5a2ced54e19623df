-- Entries in the order of their numbers, as a finite map.
use Rattle.std.proofs.Common.{◌≡◌, ◌≢◌, ℕ, zero, suc, ◌<◌, ◌≤◌, Bool, true, false, T, IsTrue, List, [], ◌∷◌, length, get_or, set, take, drop, refl, sym, ap, subst, ◌∙◌, arith}
use Rattle.std.specs.declared.cmp.Ordering.TheVariants.{Less, Equal, Greater}
use Rattle.std.specs.List.{insert}
use Rattle.std.specs.Ordering.{nat_cmp}
use Rattle.std.specs.FinMap as map
use Rattle.std.proofs.lemmas.Bool.Decides.{nat_tests}
use Rattle.std.proofs.lemmas.Cmp.{nat_cmp_total}
use Rattle.std.specs.FinMap.{put}
use Rattle.std.proofs.lemmas.List.Elements.{All-append, All-cons, All-drop, All-set, All-take}
use Rattle.zj_block.specs.Block.{IsContent}
use Rattle.zj_block.specs.Lists.{Entries, IsInsertionPoint, IsWritten, content_under}

-- how two numbers compare
less : (a b : ℕ) → a < b → nat_cmp a b ≡ Less
less a b h = grind (arith, nat_tests)

equal : (a b : ℕ) → a ≡ b → nat_cmp a b ≡ Equal
equal a b h = grind (arith, nat_tests)

greater : (a b : ℕ) → b < a → nat_cmp a b ≡ Greater
greater a b h = grind (arith, nat_tests)

-- a place behind the first entry is one in the others
place_behind : (entry : ℕ × List ℕ) (entries : Entries) (number at : ℕ) → IsInsertionPoint (entry ∷ entries) number (suc at) → IsInsertionPoint entries number at
place_behind entry entries number at place = record {
  within = omega (arith, place.within);
  smaller = λ k d below. place.smaller (suc k) d (omega arith);
  not_smaller = λ d below. place.not_smaller d (omega arith);
}

-- a content put over one with its number
pub put_over : (entries : Entries) (number : ℕ) (content : List ℕ) (at : ℕ) (d : ℕ × List ℕ) → IsInsertionPoint entries number at → at < length entries → (get_or entries at d).0 ≡ number → put nat_cmp number content entries ≡ set entries at (number, content)
put_over [] number content at d place within same = absurd (omega arith)
put_over (entry ∷ entries) number content zero d place within same =
    rw (equal number entry.0 (sym same)) (ap (λ n. (n, content) ∷ entries) same)
put_over (entry ∷ entries) number content (suc at) d place within same =
    rw (greater number entry.0 (place.smaller zero d (omega arith))) (ap (λ rest. entry ∷ rest) (put_over entries number content at d (place_behind entry entries number at place) (omega arith) same))

-- a content put under a number that is new
pub put_between : (entries : Entries) (number : ℕ) (content : List ℕ) (at : ℕ) (d : ℕ × List ℕ) → IsInsertionPoint entries number at → (at < length entries → (get_or entries at d).0 ≢ number) → put nat_cmp number content entries ≡ insert entries at (number, content)
put_between [] number content zero d place other = refl
put_between [] number content (suc at) d place other = absurd (omega (arith, place.within))
put_between (entry ∷ entries) number content zero d place other =
    let no_less : number ≤ entry.0 = place.not_smaller d (omega arith) in
    let new : entry.0 ≢ number = other (omega arith) in
    rw (less number entry.0 (omega arith)) refl
put_between (entry ∷ entries) number content (suc at) d place other =
    rw (greater number entry.0 (place.smaller zero d (omega arith))) (ap (λ rest. entry ∷ rest) (put_between entries number content at d (place_behind entry entries number at place) (λ below. other (omega arith))))

-- what a scan finds
find_is : (entries : Entries) (number : ℕ) → map.find nat_cmp number entries ≡ content_under entries number
find_is [] number = refl
find_is (entry ∷ entries) number = grind (arith, nat_tests, find_is entries number)

true_from_T : (b : Bool) → T b → IsTrue b
true_from_T true h = refl
true_from_T false h = absurd h

-- the map of entries in order
module _ (entries : Entries) (sorted : IsTrue (map.is_sorted nat_cmp entries)) where
  in_order : T (map.is_sorted nat_cmp entries)
  in_order = subst T (sym sorted) tt

  pub entries_is : map.entries (map.from_sorted {R = nat_cmp} entries) ≡ entries
  entries_is = map.entries-from_sorted nat_cmp entries in_order

  pub get_is : (number : ℕ) → map.get (map.from_sorted {R = nat_cmp} entries) number ≡ content_under entries number
  get_is number = map.get-from_sorted nat_cmp entries number in_order ∙ find_is entries number

  pub len_is : map.len (map.from_sorted {R = nat_cmp} entries) ≡ length entries
  len_is = map.len-entries (map.from_sorted {R = nat_cmp} entries) ∙ ap length entries_is

  entries_put : (number : ℕ) (content : List ℕ) → map.entries (map.insert (map.from_sorted {R = nat_cmp} entries) number content) ≡ put nat_cmp number content entries
  entries_put number content = map.entries-insert nat_cmp_total (map.from_sorted entries) number content ∙ ap (put nat_cmp number content) entries_is

  put_in_order : (number : ℕ) (content : List ℕ) → T (map.is_sorted nat_cmp (put nat_cmp number content entries))
  put_in_order number content = subst (λ (es : Entries). T (map.is_sorted nat_cmp es)) (entries_put number content) (map.entries_sorted (map.insert (map.from_sorted {R = nat_cmp} entries) number content))

  pub put_sorted : (number : ℕ) (content : List ℕ) → IsTrue (map.is_sorted nat_cmp (put nat_cmp number content entries))
  put_sorted number content = true_from_T _ (put_in_order number content)

  pub insert_is : (number : ℕ) (content : List ℕ) → map.from_sorted {R = nat_cmp} (put nat_cmp number content entries) ≡ map.insert (map.from_sorted {R = nat_cmp} entries) number content
  insert_is number content =
      map.same_entries_map _ _ (map.entries-from_sorted nat_cmp (put nat_cmp number content entries) (put_in_order number content) ∙ sym (entries_put number content))

-- no entries make the empty map, and only they
pub empty_is : (entries : Entries) → entries ≡ [] → map.from_sorted {R = nat_cmp} entries ≡ map.empty
empty_is entries none = ap (map.from_sorted {R = nat_cmp}) none ∙ map.empty_of_len (map.from_sorted {R = nat_cmp} []) (len_is [] refl)

-- a content over an older one keeps the order
pub written_over : (old : Entries) (number : ℕ) (content : List ℕ) (at : ℕ) → IsWritten old → IsContent content → put nat_cmp number content old ≡ set old at (number, content) → IsWritten (set old at (number, content))
written_over old number content at is fits put_is = record {
  sorted = subst (λ (es : Entries). IsTrue (map.is_sorted nat_cmp es)) put_is (put_sorted old is.sorted number content);
  contents = All-set (λ (e : ℕ × List ℕ). IsContent e.1) old at (number, content) fits is.contents;
}

-- so does a content between the others
pub written_between : (old : Entries) (number : ℕ) (content : List ℕ) (at : ℕ) → IsWritten old → IsContent content → put nat_cmp number content old ≡ insert old at (number, content) → IsWritten (insert old at (number, content))
written_between old number content at is fits put_is =
    let P : ℕ × List ℕ → Type 0 = λ e. IsContent e.1 in
    record {
      sorted = subst (λ (es : Entries). IsTrue (map.is_sorted nat_cmp es)) put_is (put_sorted old is.sorted number content);
      contents = All-append P (take at old) ((number, content) ∷ drop at old) (All-take P at old is.contents) (All-cons P (number, content) (drop at old) fits (All-drop P at old is.contents));
    }
