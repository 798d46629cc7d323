-- The words of a board, one at a time.
use Rattle.std.proofs.Common.{◌≡◌, ◌≢◌, ℕ, ◌+◌, ◌*◌, ◌<◌, List, length, set, arith, get_or-set_same, get_or-set_other}
use Rattle.cj_board.specs.Points.{position_word, fault_word}

-- the first word is no position, and no number of faults
pub position_first : (ws : List ℕ) (x b : ℕ) → position_word (set ws 0 x) b ≡ position_word ws b
position_first ws x b = get_or-set_other ws 0 (2 * b + 1) x 0 (λ e. omega arith)

pub fault_first : (ws : List ℕ) (x b : ℕ) → fault_word (set ws 0 x) b ≡ fault_word ws b
fault_first ws x b = get_or-set_other ws 0 (2 * b + 2) x 0 (λ e. omega arith)

-- a position is set
pub position_same : (ws : List ℕ) (p b : ℕ) → 2 * b + 1 < length ws → position_word (set ws (2 * b + 1) p) b ≡ p
position_same ws p b lt = get_or-set_same ws (2 * b + 1) p 0 lt

pub position_else : (ws : List ℕ) (p b c : ℕ) → c ≢ b → position_word (set ws (2 * b + 1) p) c ≡ position_word ws c
position_else ws p b c ne = get_or-set_other ws (2 * b + 1) (2 * c + 1) p 0 (λ e. ne (omega arith))

pub fault_aside : (ws : List ℕ) (p b c : ℕ) → fault_word (set ws (2 * b + 1) p) c ≡ fault_word ws c
fault_aside ws p b c = get_or-set_other ws (2 * b + 1) (2 * c + 2) p 0 (λ e. omega arith)

-- a number of faults is set
pub fault_same : (ws : List ℕ) (f b : ℕ) → 2 * b + 2 < length ws → fault_word (set ws (2 * b + 2) f) b ≡ f
fault_same ws f b lt = get_or-set_same ws (2 * b + 2) f 0 lt

pub fault_else : (ws : List ℕ) (f b c : ℕ) → c ≢ b → fault_word (set ws (2 * b + 2) f) c ≡ fault_word ws c
fault_else ws f b c ne = get_or-set_other ws (2 * b + 2) (2 * c + 2) f 0 (λ e. ne (omega arith))

pub position_aside : (ws : List ℕ) (f b c : ℕ) → position_word (set ws (2 * b + 2) f) c ≡ position_word ws c
position_aside ws f b c = get_or-set_other ws (2 * b + 2) (2 * c + 1) f 0 (λ e. omega arith)
