-- Where words leave a grammar, told from its words and from what stands behind them.
use Rattle.std.proofs.Common.{◌≡◌, ℕ, List, [], ◌∷◌, ◌++◌, Result, Ok, Err, IfErr, refl, sym, ap, ◌∙◌, subst}
use Rattle.zj_script.specs.declared.fault.Stop.{Stop}
use Rattle.zj_script.specs.declared.fault.Stop.TheVariants as stops
use Rattle.zj_script.specs.declared.kind.Kind.{Kind}
use Rattle.zj_script.specs.Grammar.{Part, words_of}
use Rattle.zj_script.specs.Reading.{Lacks, Stops}
use Rattle.zj_script.specs.Refusals.{NoneGoesOn}

-- Each line begins with a word of one kind.
abbrev pub Begins : (List Part → Type 0) → Kind → (List ℕ → Type 0) → Type 0
Begins Grammar kind IsDue = (line : List Part) → Grammar line → (word : List ℕ) × (more : List Part) × (line ≡ (kind, word) ∷ more) × IsDue word

-- a line that begins with a word, taken apart
apart : (kind : Kind) (line : List Part) (first : List ℕ) (last : List Part) (word : List ℕ) (more : List (List ℕ)) → line ≡ (kind, first) ∷ last → words_of line ≡ word ∷ more → (first ≡ word) × (line ≡ (kind, word) ∷ last) × (words_of last ≡ more)
apart kind line first last word more e w =
    let words : first ∷ words_of last ≡ word ∷ more = sym (ap (λ (parts : List Part). words_of parts) e) ∙ w in
    let heads : first ≡ word = cc in
    let tails : words_of last ≡ more = cc in
    (heads, e ∙ ap (λ (text : List ℕ). (kind, text) ∷ last) heads, tails)

-- a line that begins with a word has words
some_words : (kind : Kind) (line : List Part) (first : List ℕ) (last : List Part) → line ≡ (kind, first) ∷ last → words_of line ≡ [] → ⊥
some_words kind line first last e none =
    let words : first ∷ words_of last ≡ [] = sym (ap (λ (parts : List Part). words_of parts) e) ∙ none in
    absurd (cc)

none_first : (Grammar : List Part → Type 0) (kind : Kind) (IsDue : List ℕ → Type 0) → Begins Grammar kind IsDue
    → (words : List (List ℕ)) → ((word : List ℕ) (more : List (List ℕ)) → IsDue word → words ≡ word ∷ more → ⊥) → NoneGoesOn Grammar [] words
none_first Grammar kind IsDue begins [] none = λ line good e.
    let b = begins line good in
    some_words kind line b.0 b.1 b.2 e
none_first Grammar kind IsDue begins (word ∷ rest) none = λ line more good e.
    let b = begins line good in
    let p = apart kind line b.0 b.1 word more b.2 e in
    none b.0 rest b.3 (ap (λ (text : List ℕ). text ∷ rest) (sym p.0))

-- where the first word is none that a line begins with
pub lacks_first : (Grammar : List Part → Type 0) (kind : Kind) (IsDue : List ℕ → Type 0) (words : List (List ℕ)) (stop : Stop) (word : List ℕ) (more : List Part)
    → Grammar ((kind, word) ∷ more) → Begins Grammar kind IsDue → Lacks IsDue kind words stop → Stops Grammar words stop
lacks_first Grammar kind IsDue words (stops.Refused found left) word more good begins lacks =
    (words, record { front = []; more = (kind, word) ∷ more; begins = good; words_are = refl; longest = none_first Grammar kind IsDue begins words lacks.2; kind_is = lacks.0 }, lacks.1)
lacks_first Grammar kind IsDue words stops.NoMemory word more good begins lacks = tt

none_behind : (Grammar : List Part → Type 0) (kind : Kind) (IsDue : List ℕ → Type 0) (word : List ℕ) → Begins Grammar kind IsDue
    → (front rest : List (List ℕ)) → NoneGoesOn (λ parts. Grammar ((kind, word) ∷ parts)) front rest → NoneGoesOn Grammar (word ∷ front) rest
none_behind Grammar kind IsDue word begins front [] none = λ line good e.
    let b = begins line good in
    let p = apart kind line b.0 b.1 word front b.2 e in
    none b.1 (subst Grammar p.1 good) p.2
none_behind Grammar kind IsDue word begins front (next ∷ rest) none = λ line more good e.
    let b = begins line good in
    let p = apart kind line b.0 b.1 word (front ++ next ∷ more) b.2 e in
    none b.1 more (subst Grammar p.1 good) p.2

-- where the words behind the first one leave what stands behind it
pub stops_behind : (Grammar : List Part → Type 0) (kind : Kind) (IsDue : List ℕ → Type 0) (word : List ℕ) (words : List (List ℕ)) (stop : Stop)
    → Begins Grammar kind IsDue → Stops (λ parts. Grammar ((kind, word) ∷ parts)) words stop → Stops Grammar (word ∷ words) stop
stops_behind Grammar kind IsDue word words (stops.Refused found left) begins stop =
    let l = stop.1 in
    (stop.0, record { front = (kind, word) ∷ l.front; more = l.more; begins = l.begins; words_are = ap (λ (ws : List (List ℕ)). word ∷ ws) l.words_are; longest = none_behind Grammar kind IsDue word begins _ stop.0 l.longest; kind_is = l.kind_is }, stop.2)
stops_behind Grammar kind IsDue word words stops.NoMemory begins stop = tt

none_of_both : (Grammar Other : List Part → Type 0) → ((parts : List Part) → Other parts → Grammar parts) → (front rest : List (List ℕ)) → NoneGoesOn Grammar front rest → NoneGoesOn Other front rest
none_of_both Grammar Other back front [] none = λ line good e. none line (back line good) e
none_of_both Grammar Other back front (word ∷ rest) none = λ line more good e. none line more (back line good) e

-- two grammars of the same lines are left alike
pub stops_alike : (Grammar Other : List Part → Type 0) (words : List (List ℕ)) (stop : Stop) → ((parts : List Part) → Grammar parts → Other parts) → ((parts : List Part) → Other parts → Grammar parts)
    → Stops Grammar words stop → Stops Other words stop
stops_alike Grammar Other words (stops.Refused found left) to back stop =
    let l = stop.1 in
    (stop.0, record { front = l.front; more = l.more; begins = to _ l.begins; words_are = l.words_are; longest = none_of_both Grammar Other back _ stop.0 l.longest; kind_is = l.kind_is }, stop.2)
stops_alike Grammar Other words stops.NoMemory to back stop = tt

-- what holds of an error where something else does
pub if_err : {T E : Type 0} (result : Result T E) (P Q : E → Type 0) → ((e : E) → P e → Q e) → IfErr result P → IfErr result Q
if_err (Ok x) P Q to p = tt
if_err (Err e) P Q to p = to e p
