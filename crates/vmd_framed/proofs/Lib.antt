pub mod ExcerptLaws
