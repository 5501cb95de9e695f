-- Big-endian numbers there and back, once for every width.
use mathlib.Core.Path.{◌≡◌, refl, sym, ap, ◌∙◌}
use mathlib.Core.List.{List, [], ◌∷◌, ◌++◌}
use Prim.Native.Nat.{ℕ, zero, suc, ◌+◌, ◌*◌, ◌/◌, ◌%◌, ◌^◌, ◌≤◌, ◌<◌}
use native.Mathlib.Nat.{mod-lt, div-add-mod', pow-suc, add-zero, suc-add, add-suc, pow-succ', pow-zero}
use native.Mathlib.Omega.{arith}
use lib.Arith.{digits_div, digits_mod, digits_lt, lt-one}
use lib.ListN.{length, get_or, drop}
use lib.Seq.{drop-cons}
use Rattle.hermes.specs.Store.{Bytes}
use Rattle.packet_format.specs.Bytes.{be, num, window}

pow-256 : (k : ℕ) → 0 < 256 ^ k
pow-256 zero = rw pow-zero (omega arith)
pow-256 (suc k) = let h = pow-256 k in rw pow-suc (omega arith)

length-be : (k n : ℕ) → length (be k n) ≡ k
length-be zero n = refl
length-be (suc k) n = ap suc (length-be k (n % 256 ^ k))

-- a number written is read, however great: the first element takes all that the others leave
pub num-be : (k n : ℕ) → num (be (suc k) n) ≡ n
num-be zero n = ap (λ (x : ℕ). n / 256 ^ 0 * 256 ^ 0 + x) (sym (lt-one (mod-lt n (pow-256 0)))) ∙ div-add-mod' n (256 ^ 0)
num-be (suc k) n =
    ap (λ (j : ℕ). n / 256 ^ suc k * 256 ^ j + num (be (suc k) (n % 256 ^ suc k))) (length-be (suc k) (n % 256 ^ suc k))
    ∙ ap (λ (x : ℕ). n / 256 ^ suc k * 256 ^ suc k + x) (num-be k (n % 256 ^ suc k))
    ∙ div-add-mod' n (256 ^ suc k)

pub num-lt : (bs : List ℕ) → Bytes bs → num bs < 256 ^ length bs
num-lt [] b = omega arith
num-lt (x ∷ bs) b = rw pow-succ' (digits_lt (b 0) (num-lt bs (λ i. b (suc i))))

-- bytes read are written
pub be-num : (bs : List ℕ) → Bytes bs → be (length bs) (num bs) ≡ bs
be-num [] b = refl
be-num (x ∷ bs) b =
    let h = num-lt bs (λ i. b (suc i)) in
    rw (digits_div x h, digits_mod x h) (ap (λ (l : List ℕ). x ∷ l) (be-num bs (λ i. b (suc i))))

-- k elements from j on, and what follows them
pub window-drop : (q : List ℕ) (j k : ℕ) → j + k ≤ length q → drop j q ≡ window q j k ++ drop (j + k) q
window-drop q j zero h = ap (λ (n : ℕ). drop n q) (sym (add-zero j))
window-drop q j (suc k) h =
    drop-cons q j 0 (omega arith)
    ∙ ap (λ (l : List ℕ). get_or q j 0 ∷ l)
    (window-drop q (suc j) k (omega arith) ∙ ap (λ (n : ℕ). window q (suc j) k ++ drop n q) (suc-add j k ∙ sym (add-suc j k)))

pub window_bytes : (q : List ℕ) (j k : ℕ) → Bytes q → Bytes (window q j k)
window_bytes q j zero b i = omega arith
window_bytes q j (suc k) b zero = b j
window_bytes q j (suc k) b (suc i) = window_bytes q (suc j) k b i

pub be-window : (q : List ℕ) (j k : ℕ) → Bytes q → be (length (window q j k)) (num (window q j k)) ≡ window q j k
be-window q j k b = be-num (window q j k) (window_bytes q j k b)
