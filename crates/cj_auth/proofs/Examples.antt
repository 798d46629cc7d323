-- The account of a user `ann`, whose password is `secret`, with logins at two backends.
use Rattle.std.proofs.Common.{◌≡◌, ◌||◌, ℕ, true, false, List, [], ◌∷◌, refl, ap, ◌∙◌, Some, None, codes}
use Rattle.cj_auth.proofs.Common.{Account, BadDigest, LoginCount, Twice, admits, login_of, refusal_of_accounts}
use Rattle.sha2.specs.Sha256.{compress, digest_bytes, first_words, hash_after, rounds, schedule, sha256}
use Rattle.hex.proofs.OnLiterals.{hex_on_literals}
use Rattle.cj_auth.specs.Digests.{spells}

abbrev ann : Account
ann = record {
  user = codes "ann";
  digest = codes "2bb80d537b1da3e38bd30361aa855686bde0eacd7162fef6a25fe97bf527a25b";
  logins = codes "l0" ∷ codes "l1" ∷ [];
}

-- the bytes that its digits spell
abbrev key : List ℕ
key = 0x2b ∷ 0xb8 ∷ 0x0d ∷ 0x53 ∷ 0x7b ∷ 0x1d ∷ 0xa3 ∷ 0xe3 ∷ 0x8b ∷ 0xd3 ∷ 0x03 ∷ 0x61 ∷ 0xaa ∷ 0x85 ∷ 0x56 ∷ 0x86 ∷ 0xbd ∷ 0xe0 ∷ 0xea ∷ 0xcd ∷ 0x71 ∷ 0x62 ∷ 0xfe ∷ 0xf6 ∷ 0xa2 ∷ 0x5f ∷ 0xe9 ∷ 0x7b ∷ 0xf5 ∷ 0x27 ∷ 0xa2 ∷ 0x5b ∷ []

spells_key : spells ann.digest key ≡ true
unfolding hex_on_literals
spells_key = refl

-- digits in upper case spell the same
spells_in_capitals : spells (codes "2BB80D537B1DA3E38BD30361AA855686BDE0EACD7162FEF6A25FE97BF527A25B") key ≡ true
unfolding hex_on_literals
spells_in_capitals = refl

-- the key is the SHA-256 of `secret`
hash_of_secret : sha256 (codes "secret") ≡ key
unfolding sha256 hash_after compress rounds schedule first_words digest_bytes
hash_of_secret = refl

lets_ann_in : admits (ann ∷ []) (codes "ann") (codes "secret") ≡ true
lets_ann_in = ap (λ k. spells ann.digest k || false) hash_of_secret ∙ ap (λ b. b || false) spells_key

-- with another password it doesn't
needs_the_password : admits (ann ∷ []) (codes "ann") (codes "secrets") ≡ false
unfolding hex_on_literals sha256 hash_after compress rounds schedule first_words digest_bytes
needs_the_password = refl

keeps_others_out : admits (ann ∷ []) (codes "amy") (codes "secret") ≡ false
keeps_others_out = refl

login_at_0 : login_of (ann ∷ []) (codes "ann") 0 ≡ codes "l0"
login_at_0 = refl

login_at_1 : login_of (ann ∷ []) (codes "ann") 1 ≡ codes "l1"
login_at_1 = refl

login_of_others : login_of (ann ∷ []) (codes "amy") 1 ≡ []
login_of_others = refl

-- ---- what is refused

abbrev without_digest : Account
without_digest = record { user = codes "bob"; digest = codes "2bb8"; logins = codes "l0" ∷ [] }

accepted : refusal_of_accounts (ann ∷ []) 2 ≡ None
accepted = refl

twice_first : refusal_of_accounts (without_digest ∷ ann ∷ ann ∷ []) 2 ≡ Some (Twice (codes "ann"))
twice_first = refl

digest_next : refusal_of_accounts (ann ∷ without_digest ∷ []) 3 ≡ Some (BadDigest (codes "bob"))
digest_next = refl

logins_last : refusal_of_accounts (ann ∷ []) 3 ≡ Some (LoginCount (codes "ann"))
logins_last = refl
