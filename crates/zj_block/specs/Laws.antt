-- What words, bytes and numbers of 32 bits of one block say of each other.
use Rattle.std.specs.Prelude.{◌≡◌, ◌≢◌, ◌⊎◌, ◌↔◌, None, ℕ, ◌+◌, ◌-◌, ◌*◌, ◌/◌, ◌^◌, ◌<◌, ◌≤◌, ◌&&◌, List, length, nat_lt, nat_le, if◌then◌else◌, slice_index, slice_set}
use Rattle.std.specs.Int.{to_le_bytes, w32, w64}
use Rattle.zj_block.specs.Sizes.{IsInLimits, Numbers, out_of_range}
use Rattle.zj_block.specs.Block.{IsBytes, IsContent, bytes_of, overwritten, u32_at, with_bytes_at, words_of, zero_content}

-- numbers are within their limits exactly where none is out of range
abbrev pub WithinLimits : Type 0
WithinLimits = (n : Numbers) → IsInLimits n ↔ (out_of_range n ≡ None)

-- a content is told by its bytes
abbrev pub WordsOfBytes : Type 0
WordsOfBytes = (content : List ℕ) → IsContent content → words_of (bytes_of content) ≡ content

-- any 512 bytes are those of their words
abbrev pub BytesOfWords : Type 0
BytesOfWords = (bytes : List ℕ) → IsBytes bytes → bytes_of (words_of bytes) ≡ bytes

-- a content has 512 bytes
abbrev pub ContentHasBytes : Type 0
ContentHasBytes = (content : List ℕ) → IsContent content → IsBytes (bytes_of content)

-- 512 bytes make a content
abbrev pub BytesMakeContent : Type 0
BytesMakeContent = (bytes : List ℕ) → IsBytes bytes → IsContent (words_of bytes)

-- bytes with new ones over some are the new ones there and the old ones elsewhere
abbrev pub OverwrittenBytes : Type 0
OverwrittenBytes = (bytes : List ℕ) (at : ℕ) (new : List ℕ) (m : ℕ) → at + length new ≤ length bytes
    → slice_index (overwritten bytes at new) m ≡ (if nat_le at m && nat_lt m (at + length new) then slice_index new (m - at) else slice_index bytes m)

-- a word that is set changes its own eight bytes
abbrev pub SetWordBytes : Type 0
SetWordBytes = (content : List ℕ) (i word : ℕ) → IsContent content → i < 64
    → bytes_of (slice_set content i word) ≡ overwritten (bytes_of content) (8 * i) (to_le_bytes w64 word)

-- a content with new bytes over some has those bytes
abbrev pub PutBytes : Type 0
PutBytes = (content : List ℕ) (at : ℕ) (new : List ℕ) → IsContent content → at + length new ≤ 512 → ((i : ℕ) → slice_index new i < 256)
    → bytes_of (with_bytes_at content at new) ≡ overwritten (bytes_of content) at new

-- and it is a content
abbrev pub PutContent : Type 0
PutContent = (content : List ℕ) (at : ℕ) (new : List ℕ) → IsContent content → at + length new ≤ 512 → ((i : ℕ) → slice_index new i < 256)
    → IsContent (with_bytes_at content at new)

-- each number of 32 bits has them
abbrev pub NumberFits : Type 0
NumberFits = (content : List ℕ) (at : ℕ) → u32_at content at < 2 ^ 32

-- a number that was put is found
abbrev pub NumberFound : Type 0
NumberFound = (content : List ℕ) (at number : ℕ) → IsContent content → at + 4 ≤ 512 → number < 2 ^ 32
    → u32_at (with_bytes_at content at (to_le_bytes w32 number)) at ≡ number

-- numbers that lie apart from it stay
abbrev pub NumbersApart : Type 0
NumbersApart = (content : List ℕ) (at number other : ℕ) → IsContent content → at + 4 ≤ 512 → (other + 4 ≤ at) ⊎ (at + 4 ≤ other)
    → u32_at (with_bytes_at content at (to_le_bytes w32 number)) other ≡ u32_at content other

-- so do those at other multiples of four
abbrev pub NumbersElsewhere : Type 0
NumbersElsewhere = (content : List ℕ) (j k number : ℕ) → IsContent content → j < 128 → k ≢ j
    → u32_at (with_bytes_at content (4 * j) (to_le_bytes w32 number)) (4 * k) ≡ u32_at content (4 * k)

-- and the words that it isn't in
abbrev pub WordsElsewhere : Type 0
WordsElsewhere = (content : List ℕ) (j i number : ℕ) → IsContent content → j < 128 → i < 64 → i ≢ j / 2
    → slice_index (with_bytes_at content (4 * j) (to_le_bytes w32 number)) i ≡ slice_index content i

-- a word that is set leaves the numbers that lie apart from it
abbrev pub NumbersOffWord : Type 0
NumbersOffWord = (content : List ℕ) (i word other : ℕ) → IsContent content → i < 64 → (other + 4 ≤ 8 * i) ⊎ (8 * i + 8 ≤ other)
    → u32_at (slice_set content i word) other ≡ u32_at content other

-- a word is made of the two numbers in it
abbrev pub WordHalves : Type 0
WordHalves = (content : List ℕ) (i : ℕ) → IsContent content
    → slice_index content i ≡ u32_at content (8 * i) + 2 ^ 32 * u32_at content (8 * i + 4)

-- a block of zeros has no word, byte or number but 0
abbrev pub ZeroWords : Type 0
ZeroWords = (i : ℕ) → slice_index zero_content i ≡ 0

abbrev pub ZeroBytes : Type 0
ZeroBytes = (m : ℕ) → slice_index (bytes_of zero_content) m ≡ 0

abbrev pub ZeroNumbers : Type 0
ZeroNumbers = (at : ℕ) → u32_at zero_content at ≡ 0
