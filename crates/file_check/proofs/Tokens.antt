-- The two lists of the initial tokens, which grow token by token.
use Rattle.std.proofs.Common.{◌≡◌, ℕ, zero, suc, ◌+◌, ◌*◌, ◌<◌, List, [], ◌∷◌, ◌++◌, length, map, take, drop, refl, sym, ap, ◌∙◌, arith}
use Rattle.std.proofs.lemmas.List.{drop-drop}
use Rattle.docket_records.specs.DocketRecords.{docket_header_of, token_of}
use Rattle.docket_records.specs.declared.token.InitialToken.{InitialToken}
use Rattle.file_check.specs.Walks.{AsGiven, read_tokens}
use Rattle.file_check.specs.declared.initial.InitialLists.{InitialLists}
use Rattle.file_rules.specs.Asks.{initial_tokens_of}
use Rattle.net_records.proofs.Fields.{field_below}
use Rattle.net_records.specs.Parts.{Unread, past}

tokens_more : (k : ℕ) (rest : List ℕ) → initial_tokens_of (suc k) rest ≡ initial_tokens_of k rest ++ token_of (take 3 (drop (3 * k) rest)) ∷ []
tokens_more zero rest = refl
tokens_more (suc k) rest =
    let threes : 3 + 3 * k ≡ 3 * suc k = omega arith in
    let there = drop-drop (3 * k) 3 rest ∙ ap (λ j. drop j rest) threes in
    ap (λ ts. token_of (take 3 rest) ∷ ts) (tokens_more k (drop 3 rest)) ∙ ap (λ l. initial_tokens_of (suc k) rest ++ token_of (take 3 l) ∷ []) there

map_more : (f : InitialToken → ℕ) (ts : List InitialToken) (t : InitialToken) → map f (ts ++ t ∷ []) ≡ map f ts ++ f t ∷ []
map_more f [] t = refl
map_more f (u ∷ ts) t = ap (λ l. f u ∷ l) (map_more f ts t)

as_many : (f : InitialToken → ℕ) (k : ℕ) (rest : List ℕ) → length (map f (initial_tokens_of k rest)) ≡ k
as_many f zero rest = refl
as_many f (suc k) rest = ap suc (as_many f k (drop 3 rest))

-- one list more
grown : (f : InitialToken → ℕ) (k : ℕ) (rest : List ℕ) (t : InitialToken) (l l' : List ℕ) → k < 15 → t ≡ token_of (take 3 (drop (3 * k) rest)) → l ≡ map f (initial_tokens_of k rest) → (length l < 15 → l' ≡ l ++ f t ∷ []) → l' ≡ map f (initial_tokens_of (k + 1) rest)
grown f k rest t l l' few is so_far added =
    let room : length l < 15 = omega (arith, few, ap length so_far, as_many f k rest) in
    let next : suc k ≡ k + 1 = omega arith in
    added room
    ∙ ap (λ m. m ++ f t ∷ []) so_far
    ∙ ap (λ u. map f (initial_tokens_of k rest) ++ f u ∷ []) is
    ∙ sym (map_more f (initial_tokens_of k rest) (token_of (take 3 (drop (3 * k) rest))))
    ∙ ap (map f) (sym (tokens_more k rest))
    ∙ ap (λ j. map f (initial_tokens_of j rest)) next

pub given_more : (k : ℕ) (rest : List ℕ) (t : InitialToken) (lists more : InitialLists) → k < 15 → t ≡ token_of (take 3 (drop (3 * k) rest)) → AsGiven k rest lists → (length lists.places.items < 15 → more.places.items ≡ lists.places.items ++ t.place ∷ []) → (length lists.ages.items < 15 → more.ages.items ≡ lists.ages.items ++ t.age ∷ []) → AsGiven (k + 1) rest more
given_more k rest t lists more few is so_far placed aged = record {
  places = grown (λ t. t.place) k rest t _ _ few is so_far.places placed;
  ages = grown (λ t. t.age) k rest t _ _ few is so_far.ages aged;
}

pub past_tokens : (k : ℕ) (start u v : Unread) → u ≡ read_tokens k start → v ≡ past 3 u → v ≡ read_tokens (k + 1) start
past_tokens k start u v so_far moved =
    let threes : 3 * k + 3 ≡ 3 * (k + 1) = omega arith in
    let rest = drop-drop 3 (3 * k) start.rest ∙ ap (λ j. drop j start.rest) threes in
    let next : start.next + k + 1 ≡ start.next + (k + 1) = omega arith in
    moved ∙ ap (past 3) so_far ∙ (λ i. record { rest = rest i; next = next i })

-- a header says so many tokens in four bits
pub header_small : (bytes : List ℕ) → (docket_header_of bytes).initial < 16
unfolding docket_header_of
header_small bytes = field_below bytes 0 4
