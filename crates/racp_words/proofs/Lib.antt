mod Words
mod Tables
