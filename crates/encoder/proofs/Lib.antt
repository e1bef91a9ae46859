pub mod CardParts
