-- What follows a verb is of one command at most, and of none if it lacks a backend.
use Rattle.std.proofs.Common.{◌≡◌, ◌∙◌, refl, sym, ap, subst, ℕ, List, codes, Some, None, inl, inr}
use Rattle.cj_commands.proofs.Common.{HasNoSpace, IsBackend, IsNoBackend, IsNamed, IsNumber, LacksNamed, IsLogRange, IsRange, AsksToShow, AsksToEnable, AsksFor, LacksAmong, LacksToEnable, Command, Verb, Abort, Backup, Checkpoint, Disable, Enable, Show}
use Rattle.cj_commands.specs.declared.command.Command.TheVariants as command
use Rattle.cj_words.proofs.Cutting.{no_space, one_cut, numbered_one, named_one}
use Rattle.cj_words.proofs.Numbers.{number_one}

-- ---- one command at most

-- a word names one backend
backend_one : (names : List (List ℕ)) (z : List ℕ) (b d : ℕ) → IsBackend names z b → IsBackend names z d → b ≡ d
backend_one names z b d p q = let same : Some b ≡ Some d = sym p.named ∙ q.named in cc

-- a backend's name has nothing behind it
lone_backend : (names : List (List ℕ)) (rest : List ℕ) (b d : ℕ) (name : List ℕ) → IsBackend names rest b → IsNamed names rest d name → ⊥
lone_backend names rest b d name p q = no_space q.word name (subst HasNoSpace q.parts p.word)

pub range_one : (rest : List ℕ) (x y : ℕ × ℕ) → IsRange rest x → IsRange rest y → x ≡ y
range_one rest x y p q =
    let k = numbered_one rest x.0 y.0 p.0 q.0 p.1 q.1 in
    let from : x.0 ≡ y.0 = k.0 in
    let to : x.1 ≡ y.1 = number_one q.0 x.1 y.1 (subst (λ (z : List ℕ). IsNumber z x.1) k.1 p.2) q.2 in
    ap (λ (n : ℕ). (n, x.1)) from ∙ ap (λ (n : ℕ). (y.0, n)) to

log_range_one : (rest : List ℕ) (x y : ℕ × ℕ) → IsLogRange rest x → IsLogRange rest y → x ≡ y
log_range_one rest x y p q =
    let same : p.0 ≡ q.0 = (one_cut (codes "log") (codes "log") p.0 q.0 refl refl (sym p.2 ∙ q.2)).1 in
    range_one q.0 x y (subst (λ (z : List ℕ). IsRange z x) same p.1) q.1

-- a word is no range
lone_range : (rest word : List ℕ) (x : ℕ × ℕ) → rest ≡ word → HasNoSpace word → IsLogRange rest x → ⊥
lone_range rest word x e h q = no_space (codes "log") q.0 (subst HasNoSpace (sym e ∙ q.2) h)

shown_one : (rest : List ℕ) (c d : Command) → AsksToShow rest c → AsksToShow rest d → c ≡ d
shown_one rest c d (inl (inl p)) (inl (inl q)) = p.1 ∙ sym q.1
shown_one rest c d (inl (inl p)) (inl (inr q)) = let e : codes "backends" ≡ codes "cache" = sym p.0 ∙ q.0 in absurd (cc)
shown_one rest c d (inl (inl p)) (inr q) = absurd (lone_range rest (codes "backends") q.0 p.0 refl q.1)
shown_one rest c d (inl (inr p)) (inl (inl q)) = let e : codes "cache" ≡ codes "backends" = sym p.0 ∙ q.0 in absurd (cc)
shown_one rest c d (inl (inr p)) (inl (inr q)) = p.1 ∙ sym q.1
shown_one rest c d (inl (inr p)) (inr q) = absurd (lone_range rest (codes "cache") q.0 p.0 refl q.1)
shown_one rest c d (inr p) (inl (inl q)) = absurd (lone_range rest (codes "backends") p.0 q.0 refl p.1)
shown_one rest c d (inr p) (inl (inr q)) = absurd (lone_range rest (codes "cache") p.0 q.0 refl p.1)
shown_one rest c d (inr p) (inr q) = p.2 ∙ ap (λ (x : ℕ × ℕ). command.ShowLog x.0 x.1) (log_range_one rest p.0 q.0 p.1 q.1) ∙ sym q.2

named_same : (names : List (List ℕ)) (rest : List ℕ) (make : ℕ → List ℕ → Command) (b d : ℕ) (y z : List ℕ) → IsNamed names rest b y → IsNamed names rest d z → make b y ≡ make d z
named_same names rest make b d y z p q =
    let k = named_one names rest b d y z p q in
    ap (λ (n : ℕ). make n y) k.0 ∙ ap (make d) k.1

enabled_one : (names : List (List ℕ)) (rest : List ℕ) (c d : Command) → AsksToEnable names rest c → AsksToEnable names rest d → c ≡ d
enabled_one names rest c d (inl p) (inl q) = p.2 ∙ ap (λ (b : ℕ). command.Enable b None) (backend_one names rest p.0 q.0 p.1 q.1) ∙ sym q.2
enabled_one names rest c d (inl p) (inr q) = absurd (lone_backend names rest p.0 q.0 q.1 p.1 q.2.0)
enabled_one names rest c d (inr p) (inl q) = absurd (lone_backend names rest q.0 p.0 p.1 q.1 p.2.0)
enabled_one names rest c d (inr p) (inr q) = p.3 ∙ named_same names rest (λ (b : ℕ) (name : List ℕ). command.Enable b (Some name)) p.0 q.0 p.1 q.1 p.2.0 q.2.0 ∙ sym q.3

pub asked_one : (names : List (List ℕ)) (v : Verb) (rest : List ℕ) (c d : Command) → AsksFor names v rest c → AsksFor names v rest d → c ≡ d
asked_one names Show rest c d p q = shown_one rest c d p q
asked_one names Checkpoint rest c d p q = p.1 ∙ sym q.1
asked_one names Disable rest c d p q = p.2 ∙ ap command.Disable (backend_one names rest p.0 q.0 p.1 q.1) ∙ sym q.2
asked_one names Enable rest c d p q = enabled_one names rest c d p q
asked_one names Backup rest c d p q = p.3 ∙ named_same names rest command.Backup p.0 q.0 p.1 q.1 p.2.0 q.2.0 ∙ sym q.3
asked_one names Abort rest c d p q = p.2 ∙ ap command.Abort (number_one rest p.0 q.0 p.1 q.1) ∙ sym q.2

-- ---- none if a backend is lacking

-- a word that names no backend isn't the name of one
no_backend : (names : List (List ℕ)) (z : List ℕ) (b : ℕ) → IsNoBackend names z → IsBackend names z b → ⊥
no_backend names z b none is = let same : None ≡ Some b = sym none.unnamed ∙ is.named in absurd (cc)

no_named : (names : List (List ℕ)) (rest : List ℕ) (b : ℕ) (name : List ℕ) → LacksNamed names rest → IsNamed names rest b name → ⊥
no_named names rest b name none is =
    let same = one_cut none.word is.word none.name name none.lacks.word is.backend.word (sym none.parts ∙ is.parts) in
    no_backend names is.word b (subst (IsNoBackend names) same.0 none.lacks) is.backend

enabled_none : (names : List (List ℕ)) (rest : List ℕ) (c : Command) → AsksToEnable names rest c → LacksToEnable names rest → ⊥
enabled_none names rest c (inl p) (inl q) = no_backend names rest p.0 q p.1
enabled_none names rest c (inl p) (inr q) = no_space q.word q.name (subst HasNoSpace q.parts p.1.word)
enabled_none names rest c (inr p) (inl q) = no_space p.2.0.word p.1 (subst HasNoSpace p.2.0.parts q.word)
enabled_none names rest c (inr p) (inr q) = no_named names rest p.0 p.1 q p.2.0

pub asked_none : (names : List (List ℕ)) (v : Verb) (rest : List ℕ) (c : Command) → AsksFor names v rest c → LacksAmong names v rest → ⊥
asked_none names Show rest c p q = q
asked_none names Checkpoint rest c p q = q
asked_none names Disable rest c p q = no_backend names rest p.0 q p.1
asked_none names Enable rest c p q = enabled_none names rest c p q
asked_none names Backup rest c p q = no_named names rest p.0 p.1 q p.2.0
asked_none names Abort rest c p q = q
