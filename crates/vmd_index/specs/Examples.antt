-- Computed examples that pin the definition of an index, of its table, and of what is printed. Assumes nothing.
use Rattle.std.specs.Prelude.{◌≡◌, ◌^◌, [], ◌∷◌, ◌++◌, replicate, refl, Err}
use Rattle.vmd_format.specs.Characters.{between}
use Rattle.vmd_text.specs.Text.{tens_if, digits, decimal, number_lines, text}
use Rattle.vmd_index.specs.declared.Cause.TheVariants.{NoEntry, TooLarge, NotAbove}
use Rattle.vmd_index.specs.Index.{before_first, split, lines, without_return, blank, without_blanks, digit, hexadecimal, all, some, value_after, code_point, from_items, from_content, line_says, judged, line_end, pointers, faulty, and_pointer, capped, line_and, pointers_from, index_pointers, among, bits_below, words_from, table, words, faulty_line, answer_of, index_answer}
use Rattle.vmd_index.specs.Output.{reason, message}

opened : Unit {0}
unfolding between text before_first split lines without_return blank without_blanks digit hexadecimal all some value_after code_point from_items from_content line_says judged line_end and_pointer capped line_and pointers_from index_pointers
opened = tt

-- ---- indexes without a fault

-- a comment, an empty line, blanks before the pointer, CRLF, any bytes after the second tab, and a last line without a line feed
pub small : index_pointers (
    text "# index\n\n    0\t0x3000\tIDEOGRAPHIC SPACE\n \t1\t0x3001\r\n31\t0x3bF\t" ++ (0 ∷ 255 ∷ 13 ∷ 9 ∷ 35 ∷ [])
    ++ text "\n#\n\r\n11279\t0x9")
    ≡ pointers (0 ∷ 1 ∷ 31 ∷ 11279 ∷ [])
unfolding opened
small = refl

-- nothing at all, blanks alone, and a comment after blanks
pub empty : (index_pointers [] ≡ pointers []) × (index_pointers (text "\n  \t\n \t \r\n\t# 0\n") ≡ pointers [])
unfolding opened
empty = (refl, refl)

-- leading zeros, and digits of either case
pub zeros : index_pointers (text "0000000000000000000000000000000001\t0x0123456789abcdefABCDEF\n") ≡ pointers (1 ∷ [])
unfolding opened
zeros = refl

-- ---- faults, with their line

-- 11,279 is the last pointer, and no number of digits is too long to be too large
pub last_pointer :
    (index_pointers (text "11279\t0x1\n") ≡ pointers (11279 ∷ [])) × (index_pointers (text "11280\t0x1\n") ≡ faulty 1 TooLarge)
    × (index_pointers (text "#\n\n99999999999999999999999999999999999999999\t0x1\n") ≡ faulty 3 TooLarge)
unfolding opened
last_pointer = (refl, refl, refl)

-- equal pointers, and a smaller one; comments between them do not matter
pub ascending :
    (index_pointers (text "5\t0x1\n5\t0x1\n") ≡ faulty 2 NotAbove) × (index_pointers (text "5\t0x1\n\n#\n4\t0x1") ≡ faulty 4 NotAbove)
    × (index_pointers (text "4\t0x1\n\n#\n5\t0x1") ≡ pointers (4 ∷ 5 ∷ []))
unfolding opened
ascending = (refl, refl, refl)

-- no second item; an empty one; 0x alone, also before a carriage return; another prefix; another digit
pub code_points :
    (index_pointers (text "12\n") ≡ faulty 1 NoEntry) × (index_pointers (text "12\t\t0x1\n") ≡ faulty 1 NoEntry)
    × (index_pointers (text "12\t0x\n") ≡ faulty 1 NoEntry) × (index_pointers (text "12\t0x\r\n") ≡ faulty 1 NoEntry)
    × (index_pointers (text "12\t0X1\n") ≡ faulty 1 NoEntry) × (index_pointers (text "12\tU+1\n") ≡ faulty 1 NoEntry)
    × (index_pointers (text "12\t0x1g\n") ≡ faulty 1 NoEntry) × (index_pointers (text "12\t0x1 \tx\n") ≡ faulty 1 NoEntry)
unfolding opened
code_points = (refl, refl, refl, refl, refl, refl, refl, refl)

-- no pointer; a sign; a blank after it
pub no_pointers :
    (index_pointers (text "0x3000\n") ≡ faulty 1 NoEntry) × (index_pointers (text "+1\t0x1\n") ≡ faulty 1 NoEntry)
    × (index_pointers (text "1 \t0x1\n") ≡ faulty 1 NoEntry) × (index_pointers (text "1 0x1\n") ≡ faulty 1 NoEntry)
unfolding opened
no_pointers = (refl, refl, refl, refl)

-- one carriage return is taken off at a line's end, and no other
pub returns :
    (index_pointers (text "1\t0x1\r2\n") ≡ faulty 1 NoEntry) × (index_pointers (text "1\r\t0x1\n") ≡ faulty 1 NoEntry)
    × (index_pointers (text "1\t0x1\r\r\n") ≡ faulty 1 NoEntry) × (index_pointers (text "\r\r\n") ≡ faulty 1 NoEntry)
    × (index_pointers (text "1\t0x1\r") ≡ pointers (1 ∷ []))
unfolding opened
returns = (refl, refl, refl, refl, refl)

-- the first fault decides; within a line, that of its form comes first, and then that of its size
pub first_fault :
    (index_pointers (text "9\t0x1\n8\t0x1\n99999\t0x1\n?\n") ≡ faulty 2 NotAbove)
    × (index_pointers (text "9\t0x1\n99999\t1\n") ≡ faulty 2 NoEntry)
    × (index_pointers (text "11279\t0x1\n\n11280\t0x1\n") ≡ faulty 3 TooLarge)
unfolding opened
first_fault = (refl, refl, refl)

-- line numbers stop
pub many_lines : line_and (Err NoEntry) (2 ^ 64) 0 (λ m. pointers []) ≡ faulty 18446744073709551615 NoEntry
unfolding opened
many_lines = refl

-- ---- the table

-- pointers 0 and 31 in the first word, 32 in the second, and 11,279 in the last
pub four_bits : table (0 ∷ 31 ∷ 32 ∷ 11279 ∷ []) ≡ 2147483649 ∷ 1 ∷ replicate 350 0 ++ (32768 ∷ [])
unfolding among bits_below words_from table
four_bits = refl

pub answers :
    (index_answer (text "33\t0x1") ≡ words (0 ∷ 2 ∷ replicate 351 0)) × (index_answer (text "33\t0x1\n33\t0x2") ≡ faulty_line 2 NotAbove)
unfolding opened among bits_below words_from table answer_of index_answer
answers = (refl, refl)

-- ---- what is printed

pub printed :
    (number_lines (0 ∷ 4096 ∷ 10 ∷ []) ≡ text "0\n4096\n10\n")
    × (message 7 NoEntry ≡ text "presence-table: line 7: this is no entry of the index\n")
    × (message 1000 TooLarge ≡ text "presence-table: line 1000: the pointer is 11280 or more\n")
    × (message 10 NotAbove ≡ text "presence-table: line 10: the pointer is not above the one before\n")
unfolding text tens_if digits decimal number_lines reason message
printed = (refl, refl, refl, refl)
