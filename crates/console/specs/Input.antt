-- Document 01, "Program `settle`": its input. Assumes nothing.
use Rattle.std.specs.Prelude.{Bool, cond, ◌&&◌, List, [], ℕ, ◌+◌, ◌≤◌, eqb, leb, length, get_or, take, Option, Some, None}
use Rattle.rulebook.specs.declared.Terms.{Terms}
use Rattle.rulebook.specs.File.{num}
use Rattle.console.specs.declared.input.Item.{Item}
use Rattle.console.specs.declared.input.Item.TheVariants.{Close, Submit, Bad, End}

-- ---- The opening: N, L, H, two bytes of F; X is 0 (document 02, P2)

abbrev pub opening_bytes : ℕ
opening_bytes = 5

abbrev pub opening_terms : List ℕ → Terms
opening_terms s = record { accounts = get_or s 0 0; lag = get_or s 1 0; horizon = get_or s 2 0; first = num 2 s 3; change = 0 }

-- ---- The commands

-- hex 43
abbrev pub close_command : ℕ
close_command = 67

-- hex 53
abbrev pub submit_command : ℕ
submit_command = 83

abbrev pub longest_file : ℕ
longest_file = 16384

-- the longest item: the command, a length and a file
abbrev pub longest_item : ℕ
longest_item = 3 + longest_file

-- what two bytes after the command say
abbrev pub file_length : List ℕ → ℕ
file_length s = num 2 s 1

-- the same, where they are there and the length is allowed
abbrev pub allowed_length : List ℕ → Option ℕ
allowed_length s = cond (leb 3 (length s) && leb (file_length s) longest_file) (Some (file_length s)) None

-- length and file are whole, and the length is allowed
unfoldable pub file_whole : List ℕ → Bool
file_whole s = leb 3 (length s) && (leb (file_length s) longest_file && leb (3 + file_length s) (length s))

-- what the rest of the input begins with; `Bad` has the bad item's place in the rest: the command byte is one item, length and file another
unfoldable pub item_of : List ℕ → Item
item_of s =
    cond (eqb (length s) 0) End
    (cond (eqb (get_or s 0 0) close_command) Close
    (cond (eqb (get_or s 0 0) submit_command) (cond (file_whole s) (Submit (file_length s)) (Bad 1))
    (Bad 0)))

-- ---- How far to read

-- how many bytes to have before the item can be told, as far as those at hand tell
unfoldable pub wanted : List ℕ → ℕ
wanted s = cond (eqb (get_or s 0 0) submit_command) (cond (leb 3 (length s) && leb (file_length s) longest_file) (3 + file_length s) 3) 1

-- more of the input s, as far as the bytes at hand tell
abbrev pub read_on : List ℕ → List ℕ → List ℕ
read_on s got = take (wanted got) s

-- an item's bytes: the command, then a submission's length, then its file
unfoldable pub item_bytes : List ℕ → List ℕ
item_bytes s = read_on s (read_on s (read_on s []))

-- the first n of some bytes are no more than an item has, as far as they tell
abbrev pub WithinItem : ℕ → List ℕ → Type 0
WithinItem n bytes = (n ≤ longest_item) × (n ≤ wanted (take n bytes))
